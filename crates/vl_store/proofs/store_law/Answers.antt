use Rattle.vl_store.proofs.Writes.{stores_are}
use Rattle.vl_store.proofs.store_law.Goals as goal

pub returns : goal.returns
returns c = stores_are
