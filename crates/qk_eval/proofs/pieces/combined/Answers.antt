use Rattle.qk_eval.proofs.pieces.combined.Goals as goal

pub returns-in-Add : goal.returns-in-Add
returns-in-Add c = λ names. rw c.in-Add.is (c.binary.ensures names)

pub returns-in-Sub : goal.returns-in-Sub
returns-in-Sub c = λ names. rw c.in-Sub.is (c.binary-in-Sub.ensures names)

pub returns-in-Mul : goal.returns-in-Mul
returns-in-Mul c = λ names. rw c.in-Mul.is (c.binary-in-Mul.ensures names)
