use Rattle.operation_bounds.proofs.AdapterGoesOn as adapter
use Rattle.operation_bounds.proofs.laws.adapter_goes_on.Goals as goal

pub returns : goal.returns
returns c d programs ops keeps = adapter.adapter_goes_on d ops
