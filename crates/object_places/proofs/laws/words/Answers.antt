use Rattle.object_places.proofs.Apart.{of_objects_of, own_of, used_of}
use Rattle.object_places.proofs.laws.words.Goals as goal

pub returns-clause-used : goal.returns-clause-used
returns-clause-used c = used_of

pub returns-clause-own : goal.returns-clause-own
returns-clause-own c = own_of c.whole.ensures c.inside.ensures c.apart.ensures

pub returns-clause-of_objects : goal.returns-clause-of_objects
returns-clause-of_objects c = of_objects_of c.whole.ensures c.inside.ensures
