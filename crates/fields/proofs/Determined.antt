-- A contract allows one result: any two results that it allows for the same arguments are equal.
use mathlib.Core.Path.{◌≡◌, sym, ◌∙◌}
use Prim.Native.Nat.{ℕ}
use denote.Ref.{Bor}
use Rattle.fields.proofs as fields

-- what a contract ensures is asked of lifetimes, arguments, a result and the parameters at exit
module _ {K : Type 0} {A X S : K → Type 0} (ensures : (κs : K) → A κs → X κs → S κs → Type 0) where
  abbrev pub One : Type 0
  One = (κs : K) (a : A κs) (x y : X κs) (s t : S κs) → ensures κs a x s → ensures κs a y t → x ≡ y

-- of a reference the bytes and the place; its name in the logic is no part of a program
module _ {K X : Type 0} {A S : K → Type 0} (ensures : (κs : K) → A κs → Bor X → S κs → Type 0) where
  abbrev pub OnePlace : Type 0
  OnePlace =
      (κs : K) (a : A κs) (x y : Bor X) (s t : S κs) → ensures κs a x s → ensures κs a y t → (x.now ≡ y.now) × (x.ref_ptr ≡ y.ref_ptr)

-- where something is lent to be changed, what it holds at exit too
module _ {K Y : Type 0} {A X S : K → Type 0} (ensures : (κs : K) → A κs → X κs → S κs → Type 0) (output : (κs : K) → S κs → Y) where
  abbrev pub OneWith : Type 0
  OneWith =
      (κs : K) (a : A κs) (x y : X κs) (s t : S κs) → ensures κs a x s → ensures κs a y t → (x ≡ y) × (output κs s ≡ output κs t)

pub both_one : {X Y : Type 0} {x y a : X} {s t b : Y} → (x ≡ a) × (s ≡ b) → (y ≡ a) × (t ≡ b) → (x ≡ y) × (s ≡ t)
both_one p q = (p.0 ∙ sym q.0, p.1 ∙ sym q.1)

pub by_parts : {X : Type 0} (x y : Bor X) {l : X} {b o : ℕ} → (x.now ≡ l) × ((x.ref_ptr.0 ≡ b) × (x.ref_ptr.1 ≡ o))
    → (y.now ≡ l) × ((y.ref_ptr.0 ≡ b) × (y.ref_ptr.1 ≡ o)) → (x.now ≡ y.now) × (x.ref_ptr ≡ y.ref_ptr)
by_parts x y p q = (p.0 ∙ sym q.0, λ i. ((p.1.0 ∙ sym q.1.0) i, (p.1.1 ∙ sym q.1.1) i))

pub part_one : OnePlace fields.part.Reads.Post
part_one κs a x y s t p q = by_parts x y p q

pub field_one : OnePlace fields.field.Reads.Post
field_one κs a x y s t p q = by_parts x y p q

-- where a contract is one equation for the result, two results are equal by way of what it names
pub same_one : One fields.same.Reads.Post
same_one κs a x y s t p q = p ∙ sym q

pub less_one : One fields.less.Reads.Post
less_one κs a x y s t p q = p ∙ sym q

pub key_less_one : One fields.key_less.Reads.Post
key_less_one κs a x y s t p q = p ∙ sym q

pub key_count_one : One fields.key_count.Reads.Post
key_count_one κs a x y s t p q = p ∙ sym q

pub place_of_one : One fields.place_of.Reads.Post
place_of_one κs a x y s t p q = p ∙ sym q

pub field_there_one : One fields.field_there.Reads.Post
field_there_one κs a x y s t p q = p ∙ sym q

pub scan_one : One fields.scan.Reads.Post
scan_one κs a x y s t p q = p ∙ sym q

pub places_along_one : One fields.places_along.Reads.Post
places_along_one κs a x y s t p q = p ∙ sym q
