-- At most one state of a journal is the first that differs, and none where each is the text of the rows at its place.
use Rattle.std.proofs.Common.{◌≡◌, ℕ, List, [], ◌∷◌, ◌++◌, take, inl, inr, sym, ap, subst, ◌∙◌}
use Rattle.std.proofs.lemmas.List.Elements.{All-head, All-tail}
use Rattle.acc_base.specs.declared.designs.Design.{Design}
use Rattle.acc_base.specs.declared.machines.Event.{Event}
use Rattle.acc_base.specs.Machine.{World, start}
use Rattle.acc_print.specs.Designs.{printed}
use Rattle.acc_wal.specs.Journals.{CountsAll}
use Rattle.acc_wal.specs.declared.items.Seal.{Seal}
use Rattle.acc_wal.proofs.Once.{one_of_all}
use Rattle.acc_recover.specs.Seals.{IsTextOf, IsOtherThan, IsSealOf, DiffersAt, AreSealsOf, IsFirstDiffering, HasSeals}
use Rattle.acc_recover.specs.Refusals.{IsDifferentAt}
use Rattle.acc_journalled.proofs.Lawfuls.{lead_once}

-- ---- one that differs isn't the text of the rows there

other_text : (w : World) (text : List ℕ) → IsTextOf w text → IsOtherThan w text → ⊥
other_text w text is (inl other) = other is.same
other_text w text is (inr open_there) = open_there is.idle

module _ (d : Design) (events : List Event) where
  no_seal : (seal : Seal) → DiffersAt d events seal → IsSealOf d events seal → ⊥
  no_seal seal h k =
      let same : k.here ≡ h.here = lead_once d (take seal.place events) start k.here h.here k.comes h.comes in
      other_text h.here seal.text (subst (λ (w : World). IsTextOf w seal.text) same k.is) h.other

  -- ---- the first that differs

  first_of : Seal → List Seal → Seal
  first_of seal [] = seal
  first_of seal (x ∷ l) = x

  rest_of : List Seal → List Seal
  rest_of [] = []
  rest_of (x ∷ l) = l

  fronts_end : (p q : List Seal) (s t : Seal) (l m : List Seal) → p ++ s ∷ l ≡ q ++ t ∷ m → AreSealsOf d events p → AreSealsOf d events q
      → DiffersAt d events s → DiffersAt d events t → s ≡ t
  unfolding first_of rest_of
  fronts_end [] [] s t l m same h k a b = ap (first_of s) same
  fronts_end [] (y ∷ q) s t l m same h k a b =
      absurd (no_seal s a (subst (IsSealOf d events) (sym (ap (first_of s) same)) (All-head (IsSealOf d events) y q k)))
  fronts_end (x ∷ p) [] s t l m same h k a b =
      absurd (no_seal t b (subst (IsSealOf d events) (ap (first_of t) same) (All-head (IsSealOf d events) x p h)))
  fronts_end (x ∷ p) (y ∷ q) s t l m same h k a b =
      fronts_end p q s t l m (ap rest_of same) (All-tail (IsSealOf d events) x p h) (All-tail (IsSealOf d events) y q k) a b

  pub differing_once : (seals : List Seal) (p q : ℕ) → IsFirstDiffering d events seals p → IsFirstDiffering d events seals q → p ≡ q
  differing_once seals p q h k =
      h.place_is
      ∙ ap (λ (s : Seal). s.place)
      (fronts_end h.earlier k.earlier h.seal k.seal h.later k.later (sym h.seals_are ∙ k.seals_are) h.before k.before h.differs k.differs)
      ∙ sym k.place_is

  among : (p : List Seal) (s : Seal) (l : List Seal) → AreSealsOf d events (p ++ s ∷ l) → IsSealOf d events s
  among [] s l h = All-head (IsSealOf d events) s l h
  among (x ∷ p) s l h = among p s l (All-tail (IsSealOf d events) x (p ++ s ∷ l) h)

  pub none_differs : (seals : List Seal) (place : ℕ) → AreSealsOf d events seals → IsFirstDiffering d events seals place → ⊥
  none_differs seals place h k =
      no_seal k.seal k.differs (among k.earlier k.seal k.later (subst (AreSealsOf d events) k.seals_are h))

-- ---- of a file

module _ (d : Design) (file : List ℕ) where
  first_in : (version another : ℕ) (events others : List Event) (seals sealed : List Seal) (place : ℕ)
      → CountsAll file (printed d) version events seals → CountsAll file (printed d) another others sealed
      → IsFirstDiffering d events seals place → IsFirstDiffering d others sealed place
  first_in version another events others seals sealed place c e first =
      let one = one_of_all file (printed d) (printed d) version another events others seals sealed c e in
      subst (λ (l : List Seal). IsFirstDiffering d others l place) one.3
      (subst (λ (es : List Event). IsFirstDiffering d es seals place) one.2 first)

  pub one_differing : (p q : ℕ) → IsDifferentAt d file p → IsDifferentAt d file q → p ≡ q
  one_differing p q h k =
      differing_once d k.events k.seals p q
      (first_in h.version k.version h.events k.events h.seals k.seals p h.counts k.counts h.first) k.first

  pub sealed_or : (events : List Event) (place : ℕ) → HasSeals d events file → IsDifferentAt d file place → ⊥
  sealed_or events place (version, seals, sealed) k =
      none_differs d events seals place sealed.each
      (first_in k.version version k.events events k.seals seals place k.counts sealed.counts k.first)
