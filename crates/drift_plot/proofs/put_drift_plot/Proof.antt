-- The scale is sound and reaches every share (scale_sound, share_reached), and there is room for the words (words_most). Assumes nothing.
use mathlib.Core.Path.{sym}
use mathlib.Core.Bool.{false, true}
use native.Mathlib.Omega.{arith}
use lib.Seq.{length-take-le}
use Rattle.composing.proofs.Puts.{put_length, put_back}
use Rattle.drift_words.proofs.Lengths.{words_most}
use Rattle.drift_scale.specs.Scales.{largest_share, drift_scale}
use Rattle.drift_scale.proofs.Largest.{one_bounds, largest_most, scale_sound, share_reached}
use Rattle.drift_plot.specs.Drift.{drift_plot}
use borrow.Author.Rules.{rules}
use Rattle.drift_plot.proofs.put_drift_plot.Statement.{statement}
use Rattle.drift_plot.proofs.put_drift_plot.Tie as tie

scale-of-requires : tie.Need-scale_of-scale-requires
scale-of-requires c κs =
    let s = c.before.before.before.before in
    let a = s.args in
    let small = s.requires.0.1.1 in
    rw (c.one_for-one.ensures, c.before.before.largest_share-high.ensures, c.before.largest_share-low.ensures)
    (one_bounds _, (largest_most a.list.now a.width a.j small false a.n, largest_most a.list.now a.width a.j small true a.n))

slice-aggregate-put-drift-by : tie.Need-slice_bounds-put_drift_by-end
slice-aggregate-put-drift-by c = sym (length-take-le _ _ (omega (arith, c.before.before.before.put_drift_words-end.ensures.ended, put_length c.before.before.before.put_drift_words-end.ensures)))

put-drift-by-requires : tie.Need-put_drift_by-requires
unfolding drift_scale
put-drift-by-requires c κs =
    let s = c.before.before.before.before.before.before.before.before.before.before.before in
    let a = s.args in
    let small = s.requires.0.1.1 in
    rw (c.before.before.before.before.before.before.scale_of-scale.ensures, c.before.before.before.before.before.before.before.one_for-one.ensures, c.before.before.before.before.before.before.before.before.before.largest_share-high.ensures, c.before.before.before.before.before.before.before.before.largest_share-low.ensures) (
      one_bounds _,
      (
        (scale_sound a.list.now a.width a.j small a.n, s.requires.0.1.0),
        λ i h. record {
          scale_sound = scale_sound a.list.now a.width a.j small a.n;
          first_most = s.requires.0.0;
          small = small;
          inside = (omega (arith, s.requires.1.0), s.requires.1.1.0);
          year_inside = s.requires.1.1.1;
          reached = share_reached a.list.now a.width a.j small a.n i h;
        },
      ),
    )

returns : tie.Need-returns
unfolding drift_plot drift_scale
returns c =
    let s = c.before.before.before.before.before.before.before.before.before.before.before.before.before.before in
    let a = s.args in
    let high = largest_share false a.list.now a.width a.j a.n in
    let words = put_back c.before.before.before.before.before.before.put_drift_words-end.ensures (omega (arith, words_most a.j c.before.before.before.before.before.before.before.in_percent.result)) in
    rw (words, c.before.before.before.before.before.before.before.before.before.scale_of-scale.ensures, c.before.before.before.before.before.before.before.before.before.before.one_for-one.ensures, c.before.before.before.before.before.before.before.in_percent.ensures, c.before.before.before.before.before.before.before.before.before.before.before.before.largest_share-high.ensures, c.before.before.before.before.before.before.before.before.before.before.before.largest_share-low.ensures) at c.before.before.put_drift_by.ensures

pub put_drift_plot_spec : {M : Type 1} → statement M
put_drift_plot_spec =
    tie.close
    (tie.spec
    (λ c κs. search rules)
    (λ c κs. search rules)
    (λ c κs. search rules)
    scale-of-requires
    (λ c. search rules)
    (λ c κs. search rules)
    (λ c κs. search rules)
    (λ c. search rules)
    slice-aggregate-put-drift-by
    put-drift-by-requires
    (λ c. search rules)
    returns)
