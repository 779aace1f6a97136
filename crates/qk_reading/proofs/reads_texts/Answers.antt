use Rattle.qk_reading.proofs.reads_texts.Goals as goal
use Rattle.qk_reading.proofs.TextsRead.{derived_is_read, read_is_derived}

pub returns : goal.returns
returns c = λ form text ts m scalars short read. ((λ d. derived_is_read form text ts m scalars read d), (λ e. read_is_derived form text ts m scalars short read e))
