-- The places of the line are what the walk from byte i on makes of those noted so far.
use Prim.Native.Nat.{ℕ, ◌+◌}
use mathlib.Core.Path.{◌≡◌, refl, sym, ap, ap₂, ◌∙◌}
use mathlib.Core.List.{[]}
use native.Mathlib.Omega.{arith}
use lib.ListN.{length, drop}
use Rattle.dirf.specs.Bytes.{Text}
use Rattle.dirf.specs.Lines.{clean}
use Rattle.fields.specs.declared.Places.{Places}
use Rattle.fields.specs.declared.Scanned.{Scanned}
use Rattle.fields.specs.Places.{no_places, add_place, places_from, places_of, scan_of}
use Rattle.fields.proofs.Walk.{clean_on, clean_stop, clean_end, walk_bar, walk_on}
use Rattle.fields.proofs.scan.Goals as goal
use Rattle.fields.proofs.scan.Goals.{then-b-eq124, else-b-eq124}

-- the bytes up to byte i are the line's, and no field is left to note
done : (s : Text) (i start : ℕ) (p : Places) → length (clean s) ≡ i + length (clean (drop i s))
    → places_of (clean s) ≡ places_from (clean (drop i s)) start i p → clean (drop i s) ≡ []
    → ◌≡◌ {A = Scanned} (record { len = i; places = p }) (scan_of s)
unfolding scan_of places_from
done s i start p n q e =
    let long : i ≡ length (clean s) = omega (arith, ap length e) in
    ap₂ (λ x y. record { len = x; places = y }) long (sym (q ∙ ap (λ l. places_from l start i p) e))

pub loop-i-init : goal.loop-i-init
unfolding places_of no_places
loop-i-init c =
    let n = c.none-places.ensures in
    ((omega arith, omega (arith, ap (λ p. p.count) n)), (omega arith, rw n refl))

pub returns-then-ends_line : goal.returns-then-ends_line
returns-then-ends_line c =
    let l = c.loop-i in
    let n = sym c.ends_line.ensures ∙ c.if-ends_line.true in
    done _ l.i l.start _ l.invariant.1.0 l.invariant.1.1 (clean_stop _ l.i n c.loop-i-test.true)

pub loop-i-preserved : goal.loop-i-preserved
unfolding add_place
loop-i-preserved c =
    let l = c.loop-i in
    let h = c.loop-i-test.true in
    let n = sym c.ends_line.ensures ∙ c.if-ends_line.false in
    let less = ap length (clean_on c.args.s.now l.i n h) in
    elim c.if-b-eq124.branch [
      | then-b-eq124 w ↦
          let e = w.places-is ∙ w.add.ensures in (
            (omega (arith, w.start-is), omega (arith, ap (λ p. p.count) e)),
            (omega (arith, l.invariant.1.0, less), l.invariant.1.1 ∙ walk_bar _ l.i l.start _ n w.if-b-eq124.true h ∙ cc (e, w.start-is)),
          )
      | else-b-eq124 w ↦ (
        (omega (arith, w.start-is), omega (arith, ap (λ p. p.count) w.places-is)),
        (
          omega (arith, l.invariant.1.0, less),
          l.invariant.1.1 ∙ walk_on _ l.i l.start _ n w.if-b-eq124.false h ∙ cc (w.places-is, w.start-is),
        ),
      )
    ]

pub returns : goal.returns
returns c =
    let l = c.loop-i in
    let n : l.i ≡ length c.args.s.now = omega arith in
    ap (λ k. record { len = k; places = l.places }) (sym n)
    ∙ done _ l.i l.start _ l.invariant.1.0 l.invariant.1.1 (clean_end _ l.i c.loop-i-test.false)
