-- Each section starts where the one before it ends. Assumes nothing.
use native.Mathlib.Omega.{arith}
use Prim.Native.Nat.{ℕ}
use mathlib.Core.Path.{◌≡◌}
use Rattle.rules.specs.Results.{share_section, level_section, future_level_section, payment_section, provision_section, provision_total_section, not_reported_section, reserve_section, reserve_total_section, ratio_section, factor_section, completed_section, tail_section, section_start}
use Rattle.laws.proofs.TriangleRows.{cells_least}
use Rattle.listing.specs.declared.Starts.{Starts}
use Rattle.listing.specs.Starts.{starts_of}
use Rattle.listing.proofs.Known.{known}
use borrow.Author.Rules.{rules}
use Rattle.listing.proofs.starts_of.Statement.{statement}
use Rattle.listing.proofs.starts_of.Tie as tie

-- starts that are those of the sections
of-starts : {a b d e f g h i j l m n o : ℕ} (k : ℕ) → a ≡ section_start k share_section → b ≡ section_start k level_section → d ≡ section_start k future_level_section → e ≡ section_start k payment_section → f ≡ section_start k provision_section → g ≡ section_start k provision_total_section
    → h ≡ section_start k not_reported_section → i ≡ section_start k reserve_section → j ≡ section_start k reserve_total_section → l ≡ section_start k ratio_section → m ≡ section_start k factor_section → n ≡ section_start k completed_section → o ≡ section_start k tail_section
    → ◌≡◌ {A = Starts}
    (record {
      shares = a;
      levels = b;
      ahead = d;
      payments = e;
      provisions = f;
      provision = g;
      unreported = h;
      reserves = i;
      reserve = j;
      ratio = l;
      factors = m;
      completed = n;
      tails = o;
    })
    (starts_of k)
unfolding starts_of
of-starts k p1 p2 p3 p4 p5 p6 p7 p8 p9 p10 p11 p12 p13 = rw (p1, p2, p3, p4, p5, p6, p7, p8, p9, p10, p11, p12, p13)

add-n : tie.Need-overflow_add-n
add-n c = search rules

cells-of-requires : tie.Need-cells_of-shares-requires
cells-of-requires c κs = search rules

sub-future : tie.Need-overflow_sub-future
sub-future c = omega (arith, c.cells_of-shares.ensures.0, cells_least c.before.args.k)

add-levels : tie.Need-overflow_add-levels
add-levels c = search rules

add-ahead : tie.Need-overflow_add-ahead
add-ahead c = search rules

add-payments : tie.Need-overflow_add-payments
add-payments c = search rules

add-provisions : tie.Need-overflow_add-provisions
add-provisions c = search rules

add-provision : tie.Need-overflow_add-provision
add-provision c = search rules

add-unreported : tie.Need-overflow_add-unreported
add-unreported c = search rules

add-reserves : tie.Need-overflow_add-reserves
add-reserves c = search rules

add-reserve : tie.Need-overflow_add-reserve
add-reserve c = search rules

add-ratio : tie.Need-overflow_add-ratio
add-ratio c = search rules

add-factors : tie.Need-overflow_add-factors
add-factors c = search rules

add-completed : tie.Need-overflow_add-completed
add-completed c = search rules

add-tails : tie.Need-overflow_add-tails
add-tails c = search rules

returns : tie.Need-returns
returns c =
    let k = c.before.args.k in
    let at = known k in
    let first = c.cells_of-shares.ensures.0 in
    let least = cells_least k in
    of-starts k (omega arith) (omega arith) (omega arith) (omega arith) (omega arith) (omega arith) (omega arith) (omega arith) (omega arith) (omega arith)
    (omega arith) (omega arith) (omega arith)

pub starts_of_spec : {M : Type 1} → statement M
starts_of_spec =
    tie.close
    (tie.spec
    add-n
    cells-of-requires
    sub-future
    add-levels
    add-ahead
    add-payments
    add-provisions
    add-provision
    add-unreported
    add-reserves
    add-reserve
    add-ratio
    add-factors
    add-completed
    add-tails
    returns)
