use Rattle.qk_grammar.proofs.calls.method.Goals as goal

pub returns-in-Log : goal.returns-in-Log
returns-in-Log c = rw c.in-Log.is c.member.ensures

pub returns-in-Keys : goal.returns-in-Keys
returns-in-Keys c = rw c.in-Keys.is c.member-in-Keys.ensures

pub returns-in-Trunc : goal.returns-in-Trunc
returns-in-Trunc c = rw c.in-Trunc.is c.member-in-Trunc.ensures
