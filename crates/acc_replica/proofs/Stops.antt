-- Items that can't come.
use Rattle.std.proofs.Common.{◌≡◌, List, [], ◌∷◌, ◌++◌, inl, inr, refl, sym, ap, subst, ◌∙◌}
use Rattle.acc_base.specs.declared.designs.Design.{Design}
use Rattle.acc_base.specs.Machine.{World}
use Rattle.acc_machine.specs.Takes.{CanCome}
use Rattle.acc_wal.specs.declared.items.Item.{Item}
use Rattle.acc_wal.specs.declared.items.Item.TheVariants.{Event, State}
use Rattle.acc_recover.specs.Seals.{IsOtherThan}
use Rattle.acc_replica.specs.Coming.{Come}
use Rattle.acc_replica.proofs.Comings.{goes}

-- an event that isn't lawful, or another text than that of the rows
abbrev pub IsOff : Design → World → Item → Type 0
IsOff d w (Event event) = ¬ CanCome d w event
IsOff d w (State text) = IsOtherThan w text

-- it doesn't come
off_stays : (d : Design) (w after : World) (item : Item) (items : List Item) → Come d w (item ∷ items) after → IsOff d w item → ⊥
off_stays d w after (Event event) items c off = off (record { after = c.0; lawful = c.1 })
off_stays d w after (State text) items c (inl other) = other c.0.same
off_stays d w after (State text) items c (inr some) = some c.0.idle

-- nor behind others
pub none_past : (d : Design) (w x after : World) (done : List Item) (item : Item) (later : List Item) → Come d w done x → IsOff d x item →
    Come d w (done ++ item ∷ later) after → ⊥
none_past d w x after [] item later c off all = off_stays d w after item later all (subst (λ (n : World). IsOff d n item) (sym c) off)
none_past d w x after (i ∷ done) item later c off all =
    let g = goes d w i done (done ++ item ∷ later) x after c all in
    none_past d g.next x after done item later g.first off g.second

abbrev head_or : Item → List Item → Item
head_or other [] = other
head_or other (item ∷ items) = item

abbrev tail_of : List Item → List Item
tail_of [] = []
tail_of (item ∷ items) = items

-- two places of one list at which the next doesn't come are one
pub record OnePlace (a b : List Item) (i j : Item) (x y : World) : Type 0 where
  pub done : a ≡ b
  pub next : i ≡ j
  pub here : x ≡ y

pub one_place : (d : Design) (w x y : World) (a b : List Item) (i j : Item) (l m : List Item) → Come d w a x → Come d w b y → IsOff d x i →
    IsOff d y j → a ++ i ∷ l ≡ b ++ j ∷ m → OnePlace a b i j x y
one_place d w x y [] [] i j l m p q off out same = record { done = refl; next = ap (head_or i) same; here = sym p ∙ q }
one_place d w x y [] (h ∷ b) i j l m p q off out same =
    let is : i ≡ h = ap (head_or i) same in
    absurd (off_stays d w y h b q (subst (λ (k : Item). IsOff d w k) is (subst (λ (n : World). IsOff d n i) (sym p) off)))
one_place d w x y (g ∷ a) [] i j l m p q off out same =
    let is : g ≡ j = ap (head_or g) same in
    absurd (off_stays d w x g a p (subst (λ (k : Item). IsOff d w k) (sym is) (subst (λ (n : World). IsOff d n j) (sym q) out)))
one_place d w x y (g ∷ a) (h ∷ b) i j l m p q off out same =
    let is : g ≡ h = ap (head_or g) same in
    let go = goes d w g a b x y p (subst (λ (k : Item). Come d w (k ∷ b) y) (sym is) q) in
    let rest = one_place d go.next x y a b i j l m go.first go.second off out (ap tail_of same) in
    record {
      done = ap (λ (k : Item). k ∷ a) is ∙ ap (λ (k : List Item). h ∷ k) rest.done;
      next = rest.next;
      here = rest.here;
    }
