use Rattle.qk_reading.proofs.faults_inside.Goals as goal
use Rattle.qk_reading.proofs.RaisedStatements.{out_of_place_inside, too_deep_raised, too_deep_inside}

pub returns : goal.returns
returns c = λ form deepest left ts. ((λ e. out_of_place_inside form deepest left ts e), (λ e. too_deep_inside deepest left ts (too_deep_raised form deepest left ts e)))
