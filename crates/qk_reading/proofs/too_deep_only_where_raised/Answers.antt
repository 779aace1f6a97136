use Rattle.qk_reading.proofs.too_deep_only_where_raised.Goals as goal
use Rattle.qk_reading.proofs.RaisedStatements.{too_deep_raised}

pub returns : goal.returns
returns c = too_deep_raised
