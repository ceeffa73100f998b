-- A field of 56 bits is below 2^56. Assumes nothing.
use Rattle.packing.proofs.Pack.{field_lt}
use Rattle.write_cases.proofs.read_number.Goals as goal

pub signed-requires : goal.signed-requires
signed-requires c = rw c.field-size.ensures (field_lt _ 8 56)
