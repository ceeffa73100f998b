-- A row of the record's layout as the code holds it, and the tests of a field by it. Assumes nothing.
use Rattle.std.specs.Prelude.{ℕ, Bool, cond, map, ℤ, pos, neg_ℤ, get_or}
use Rattle.rules.specs.Lists.{between}
use Rattle.rules.specs.Record.{Kind, last_year, increment, layout, count_of, bits_of, value_of, bits_in_range}
use Rattle.layout.specs.Places.{start_of}
use Rattle.field_rows.specs.declared.Row.{Row}

-- the kind of the fields of row r of the layout
abbrev pub kind_of : ℕ → ℕ → Kind
kind_of k r = get_or (map (λ p. p.1) (layout k)) r last_year

-- row r of a record of the years 0 to k
unfoldable pub row_of : ℕ → ℕ → Row
row_of k r = record {
  at = start_of k r;
  count = count_of k r;
  bits = bits_of (kind_of k r);
  signed = (kind_of k r).signed;
  least = (kind_of k r).least;
  most = (kind_of k r).most;
}

-- whether a field of the row with these bits is in range, its value, and the least value; increments alone have a sign bit
unfoldable pub passes_in : Row → ℕ → Bool
passes_in row code = cond row.signed (bits_in_range increment code) (between row.least row.most code)

unfoldable pub value_in : Row → ℕ → ℤ
value_in row code = cond row.signed (value_of increment code) (pos code)

unfoldable pub least_in : Row → ℤ
least_in row = cond row.signed (neg_ℤ (pos row.most)) (pos row.least)
