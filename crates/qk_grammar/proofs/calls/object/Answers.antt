use Rattle.qk_grammar.proofs.calls.object.Goals as goal

pub returns-in-Str : goal.returns-in-Str
returns-in-Str c = rw c.in-Str.is c.named.ensures

pub returns-in-Log : goal.returns-in-Log
returns-in-Log c = rw c.in-Log.is c.named-in-Log.ensures

pub returns-in-Keys : goal.returns-in-Keys
returns-in-Keys c = rw c.in-Keys.is c.named-in-Keys.ensures

pub returns-in-Trunc : goal.returns-in-Trunc
returns-in-Trunc c = rw c.in-Trunc.is c.named-in-Trunc.ensures
