-- A field of 56 bits is below 2^56. Assumes nothing.
use Rattle.packing.proofs.Pack.{field_lt}
use Rattle.history_cases.proofs.cell_in.Goals as goal

pub signed-requires : goal.signed-requires
signed-requires c = rw c.field.ensures (field_lt _ 8 56)
