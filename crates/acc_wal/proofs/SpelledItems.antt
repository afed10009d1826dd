-- An item is read exactly where one is spelled.
use Rattle.std.proofs.Common.{◌≡◌, ℕ, suc, ◌-◌, ◌^◌, ◌<◌, ◌≤◌, false, ltb, eqb, List, [], ◌∷◌, ◌++◌, length, take, drop}
use Rattle.std.proofs.Common.{Some, None, inl, inr, refl, sym, ap, subst, ◌∙◌, append_assoc, arith}
use Rattle.std.specs.Int.{w32, to_be_bytes}
use Rattle.std.proofs.lemmas.Bool.{le-ltb, ltb-false, eqb-true}
use Rattle.std.proofs.lemmas.List.{take_at, drop_at, length-append, take-append-drop, length-take, length-drop, drop_all}
use Rattle.acc_base.specs.declared.machines.Event.{Event as TheEvent}
use Rattle.acc_base.specs.declared.machines.Event.TheVariants.{Begin, Step, Abort, Undo}
use Rattle.acc_wal.specs.Spellings.{event_bytes, Fits}
use Rattle.acc_wal.specs.Reading.{◌>>=◌, number_at, event_at}
use Rattle.acc_wal.specs.Items.{item_bytes, ItemFits, event_item}
use Rattle.acc_wal.specs.Spelled.{text_at, state_at, as_item, item_at, StandsAt}
use Rattle.acc_wal.specs.declared.items.Item.{Item}
use Rattle.acc_wal.specs.declared.items.Item.TheVariants.{Event, State}
use Rattle.acc_wal.proofs.Readings.{IsBytes, wide32, number_again, event_again}
use Rattle.acc_wal.proofs.Taken.{IsBytes-drop, bind_some, guard_some, chosen, some_is, read32, number_takes, event_takes}

text_again : (text rest : List ℕ) → text_at (length text) (text ++ rest) ≡ Some (text, rest)
text_again text rest =
    let long : ltb (length (text ++ rest)) (length text) ≡ false = le-ltb _ _ (omega (arith, length-append text rest)) in
    rw (long, take_at text rest (length text) refl, drop_at text rest (length text) refl) refl

state_again : (text rest : List ℕ) → length text < 2 ^ 32 →
    state_at (to_be_bytes w32 (length text) ++ text ++ rest) ≡ Some (State text, rest)
unfolding state_at
state_again text rest short =
    ap (λ (l : List ℕ). state_at l) (append_assoc (to_be_bytes w32 (length text)) text rest)
    ∙ ap (λ r. r >>= λ n. text_at n.0 n.1 >>= λ text. Some (State text.0, text.1))
    (number_again w32 (2 ^ 32) wide32 (length text) (text ++ rest) short)
    ∙ ap (λ r. r >>= λ text. Some (State text.0, text.1)) (text_again text rest)

-- an item that fits its fields is read again, whatever follows it
pub item_again : (version : ℕ) (item : Item) (rest : List ℕ) → ItemFits version item → item_at version (item_bytes item ++ rest) ≡ Some (item, rest)
unfolding ItemFits item_at item_bytes event_bytes
item_again version (Event event) rest fits = by_event event fits
  where
    by_event : (event : TheEvent) → Fits event → item_at version (event_bytes event ++ rest) ≡ Some (Event event, rest)
    by_event (Begin call) fits = ap (λ r. r >>= as_item) (event_again (Begin call) rest fits)
    by_event (Step t) fits = ap (λ r. r >>= as_item) (event_again (Step t) rest fits)
    by_event (Abort t cause) fits = ap (λ r. r >>= as_item) (event_again (Abort t cause) rest fits)
    by_event (Undo t) fits = ap (λ r. r >>= as_item) (event_again (Undo t) rest fits)
item_again version (State text) rest fits =
    ap (λ v. item_at v (5 ∷ to_be_bytes w32 (length text) ++ text ++ rest)) fits.0 ∙ state_again text rest fits.1

-- so none is spelled where none is read
pub none_spelled : (version : ℕ) (bytes : List ℕ) → item_at version bytes ≡ None → (item : Item) (rest : List ℕ) → ItemFits version item →
    bytes ≡ item_bytes item ++ rest → ⊥
none_spelled version bytes none item rest fits is =
    let found = sym none ∙ ap (item_at version) is ∙ item_again version item rest fits in absurd cc

pub record ItemTaken (version : ℕ) (bytes : List ℕ) (item : Item) (rest : List ℕ) : Type 0 where
  pub parts : bytes ≡ item_bytes item ++ rest
  pub fits : ItemFits version item
  pub rest_fits : IsBytes rest

state_takes : (bytes : List ℕ) (x : Item × List ℕ) → IsBytes bytes → state_at bytes ≡ Some x → ItemTaken 2 (5 ∷ bytes) x.0 x.1
unfolding state_at item_bytes ItemFits
state_takes bytes x fits e =
    let a = bind_some (number_at w32 bytes) (λ n. text_at n.0 n.1 >>= λ text. Some (State text.0, text.1)) x e in
    let t = number_takes w32 (2 ^ 32) read32 bytes a.0.0 a.0.1 fits a.1 in
    let b = bind_some (text_at a.0.0 a.0.1) (λ text. Some (State text.0, text.1)) x a.2 in
    let g = guard_some (ltb (length a.0.1) a.0.0) (take a.0.0 a.0.1, drop a.0.0 a.0.1) b.0 b.1 in
    let long : a.0.0 ≤ length a.0.1 = ltb-false _ _ g.0 in
    let text_is : take a.0.0 a.0.1 ≡ b.0.0 = ap (λ (p : List ℕ × List ℕ). p.0) g.1 in
    let rest_is : drop a.0.0 a.0.1 ≡ b.0.1 = ap (λ (p : List ℕ × List ℕ). p.1) g.1 in
    let size : a.0.0 ≡ length b.0.0 = omega (arith, ap length text_is, length-take a.0.0 a.0.1, long) in
    let behind : a.0.1 ≡ b.0.0 ++ b.0.1 =
    sym (take-append-drop a.0.0 a.0.1) ∙ ap (λ (l : List ℕ). l ++ drop a.0.0 a.0.1) text_is ∙ ap (λ (l : List ℕ). b.0.0 ++ l) rest_is in
    let whole : bytes ≡ to_be_bytes w32 (length b.0.0) ++ b.0.0 ++ b.0.1 =
    t.0.parts ∙ ap (λ (l : List ℕ). to_be_bytes w32 a.0.0 ++ l) behind ∙ ap (λ n. to_be_bytes w32 n ++ (b.0.0 ++ b.0.1)) size
    ∙ sym (append_assoc (to_be_bytes w32 (length b.0.0)) b.0.0 b.0.1) in
    subst (λ (y : Item × List ℕ). ItemTaken 2 (5 ∷ bytes) y.0 y.1) (some_is (State b.0.0, b.0.1) x b.2) (record {
      parts = ap (λ (l : List ℕ). 5 ∷ l) whole;
      fits = (refl, omega (arith, size, t.1));
      rest_fits = subst IsBytes rest_is (IsBytes-drop a.0.0 a.0.1 t.0.rest_fits);
    })

event_taken : (version : ℕ) (bytes : List ℕ) (x : Item × List ℕ) → IsBytes bytes → (event_at bytes >>= as_item) ≡ Some x →
    ItemTaken version bytes x.0 x.1
unfolding item_bytes ItemFits
event_taken version bytes x fits e =
    let a = bind_some (event_at bytes) as_item x e in
    let t = event_takes bytes a.0 fits a.1 in
    subst (λ (y : Item × List ℕ). ItemTaken version bytes y.0 y.1) (some_is (event_item a.0.0, a.0.1) x a.2)
    (record { parts = t.takes.parts; fits = t.fits; rest_fits = t.takes.rest_fits })

-- what is read as an item of the version is that item's spelling
pub item_takes : (version : ℕ) (bytes : List ℕ) (x : Item × List ℕ) → IsBytes bytes → item_at version bytes ≡ Some x →
    ItemTaken version bytes x.0 x.1
unfolding item_at
item_takes version [] x fits e = absurd cc
item_takes version (code ∷ bytes) x fits e = elim (chosen (eqb code 5) _ _ x e) [
  | inl r ↦ elim (chosen (eqb version 2) (state_at bytes) None x r.1) [
    | inl s ↦
        subst (λ v. ItemTaken v (code ∷ bytes) x.0 x.1) (sym (eqb-true version 2 s.0))
        (subst (λ n. ItemTaken 2 (n ∷ bytes) x.0 x.1) (sym (eqb-true code 5 r.0)) (state_takes bytes x (λ i. fits (suc i)) s.1))
    | inr s ↦ absurd (let no = s.1 in cc)
  ]
  | inr r ↦ event_taken version (code ∷ bytes) x fits r.1
]

-- what is read at a place of a body
pub stands_at : (version : ℕ) (body : List ℕ) (place next : ℕ) (item : Item) (rest : List ℕ) → IsBytes body → place ≤ length body →
    item_at version (drop place body) ≡ Some (item, rest) → next ≡ length body - length rest → StandsAt version body place item next
stands_at version body place next item rest fits within is at =
    let taken = item_takes version (drop place body) (item, rest) (IsBytes-drop place body fits) is in record {
      fits = taken.fits;
      rest = rest;
      spelled = taken.parts;
      next_is = omega (arith, at, within, ap length taken.parts, length-append (item_bytes item) rest, length-drop place body);
    }

pub none_stands : (version : ℕ) (body : List ℕ) (place : ℕ) → item_at version (drop place body) ≡ None →
    (item : Item) (rest : List ℕ) → ItemFits version item → drop place body ≡ item_bytes item ++ rest → ⊥
none_stands version body place none item rest fits is = none_spelled version (drop place body) none item rest fits is

-- nothing stands past the end
pub none_past : (version : ℕ) (body : List ℕ) (place : ℕ) → length body ≤ place →
    (item : Item) (rest : List ℕ) → ItemFits version item → drop place body ≡ item_bytes item ++ rest → ⊥
unfolding item_at
none_past version body place past item rest fits is =
    none_spelled version (drop place body) (ap (item_at version) (drop_all place body past)) item rest fits is
