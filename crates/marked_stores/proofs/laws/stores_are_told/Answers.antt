use Rattle.marked_stores.proofs.Law.{all_are_told}
use Rattle.marked_stores.proofs.laws.stores_are_told.Goals as goal

pub returns : goal.returns
returns c = all_are_told c.operations_go.ensures c.places.ensures c.apart.ensures c.starts.ensures c.words.ensures.used c.words.ensures.own c.words.ensures.of_objects
