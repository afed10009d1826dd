-- What terms and forms are worth before and after an action.
use Rattle.std.proofs.Common.{◌≡◌, Bool, true, false, List, [], ◌∷◌, map, refl, ap, sym, ◌∙◌, arith, ℤ, pos, ◌+ℤ◌, ◌*ℤ◌}
use Rattle.std.proofs.Common.{if◌then◌else◌}
use Rattle.std.specs.Prelude.{◌&&◌}
use Rattle.std.specs.List.{list_any, AllByRecursion}
use Rattle.std.proofs.lemmas.Int.{ints}
use lib.IntN.{*ℤ-zero}
use Rattle.acc_base.specs.declared.tables.Row.{Row}
use Rattle.acc_base.specs.declared.forms.Unknown.{Unknown}
use Rattle.acc_base.specs.declared.forms.Form.{Form}
use Rattle.acc_base.specs.declared.steps.Action.{Action}
use Rattle.acc_base.specs.Atoms.{key_of as atom_key}
use Rattle.acc_base.specs.Tables.{IsInOrder}
use Rattle.acc_base.specs.Actions.{after_action}
use Rattle.acc_base.specs.Truth.{atom_value, unknown_value, form_value}
use Rattle.acc_base.specs.Sums.{Term}
use Rattle.acc_base.proofs.Products.{times_sum}
use Rattle.acc_base.proofs.SumLaws.{form_sum-value}
use Rattle.acc_preconditions.specs.Unders.{differences, is_false, lengthened}
use Rattle.acc_instanced.specs.Summands.{Part, part_summand}
use Rattle.acc_instanced.proofs.PartValues.{parts_value, one_times}
use Rattle.acc_instanced.proofs.SummandValues.{all_zero, worth, worth-append, parts_worth, summands_value}
use Rattle.acc_preconditions.specs.Changes.{key_of, change}
use Rattle.acc_preconditions.specs.Gains.{changed_summands, term_summands, summands, gained}
use Rattle.acc_preconditions.specs.Preconditions.{without_constant, before_action}
use Rattle.acc_preconditions.proofs.Growths.{IsReady}
use Rattle.acc_preconditions.proofs.UnderTurns.{never_zero, lengthened_zero}
use Rattle.acc_preconditions.proofs.AtomTurns.{gain, meets, IsLong, atom_turn}

module _ (env : List ℤ) (a : Action) (db : List Row) (order : IsInOrder db) (ready : IsReady env a db) where
  abbrev after : List Row
  after = after_action env a db

  -- what an unknown gains
  abbrev unknown_gain : Unknown → ℤ
  unknown_gain u = if all_zero env u.under then gain env a db order u.atom else pos 0

  unknown_turn : (u : Unknown) → IsLong env a db order u.atom → unknown_value after env u ≡ unknown_value db env u +ℤ unknown_gain u
  unknown_turn u long = by (all_zero env u.under)
    where
      by : (b : Bool) → (if b then atom_value after env u.atom else pos 0) ≡ (if b then atom_value db env u.atom else pos 0) +ℤ
          (if b then gain env a db order u.atom else pos 0)
      by true = atom_turn env a db order u.atom long ready
      by false = omega (arith, ints)

  -- the summands of a term are worth what its unknown gains
  summands_worth : (t : Term) → worth db env (term_summands a t) ≡ t.1 *ℤ unknown_gain t.0
  summands_worth t = by (change a t.0.atom)
    where
      nothing : (b c : Bool) → pos 0 ≡ t.1 *ℤ (if b then (if c then pos 0 else pos 0) else pos 0)
      nothing true true = sym (*ℤ-zero t.1)
      nothing true false = sym (*ℤ-zero t.1)
      nothing false c = sym (*ℤ-zero t.1)

      both : (b c : Bool) (x : ℤ) → (if b && c then t.1 *ℤ x else pos 0) ≡ t.1 *ℤ (if b then (if c then x else pos 0) else pos 0)
      both true true x = refl
      both true false x = sym (*ℤ-zero t.1)
      both false c x = sym (*ℤ-zero t.1)

      fallen : (f : Bool) (ps : List Part) → list_any is_false (lengthened t.0.under (differences (atom_key t.0.atom) (key_of a))) ≡ f →
          worth db env (if f then [] else map (part_summand (lengthened t.0.under (differences (atom_key t.0.atom) (key_of a))) t.1) ps) ≡
          (if all_zero env (lengthened t.0.under (differences (atom_key t.0.atom) (key_of a))) then t.1 *ℤ parts_value db env ps else pos 0)
      fallen true ps e = ap (λ b. if b then t.1 *ℤ parts_value db env ps else pos 0)
          (sym (never_zero env (lengthened t.0.under (differences (atom_key t.0.atom) (key_of a))) e))
      fallen false ps e = parts_worth db env (lengthened t.0.under (differences (atom_key t.0.atom) (key_of a))) t.1 ps

      by : (ps : List Part) → worth db env (changed_summands (key_of a) t ps) ≡ t.1 *ℤ
          (if all_zero env t.0.under then (if meets env a db order t.0.atom then parts_value db env ps else pos 0) else pos 0)
      by [] = nothing (all_zero env t.0.under) (meets env a db order t.0.atom)
      by (p ∷ ps) =
          fallen (list_any is_false (lengthened t.0.under (differences (atom_key t.0.atom) (key_of a)))) (p ∷ ps) refl ∙
          (ap (λ b. if b then t.1 *ℤ parts_value db env (p ∷ ps) else pos 0)
          (lengthened_zero env t.0.under (differences (atom_key t.0.atom) (key_of a))) ∙ both (all_zero env t.0.under)
          (meets env a db order t.0.atom) (parts_value db env (p ∷ ps)))

  terms_turn : (ts : List Term) → AllByRecursion (λ t. IsLong env a db order t.0.atom) ts →
      worth after env ts ≡ worth db env ts +ℤ worth db env (summands a ts)
  terms_turn [] long = omega (arith, ints)
  terms_turn (t ∷ ts) long =
      let rest = terms_turn ts long.1 in
      let both = worth-append db env (term_summands a t) (summands a ts) in
      let own = summands_worth t in
      let turn = ap (λ z. t.1 *ℤ z) (unknown_turn t.0 long.0) in
      let split = times_sum t.1 (unknown_value db env t.0) (unknown_gain t.0) in
      omega (arith, ints, rest, both, own, turn, split)

  -- the form before the action is worth what the form is worth after it
  pub form_turn : (f : Form) → AllByRecursion (λ t. IsLong env a db order t.0.atom) f.terms →
      form_value db env (before_action a f) ≡ form_value after env f
  form_turn f long =
      let sum = form_sum-value db env (without_constant f) (pos 1) (gained a f) in
      let one = one_times (form_value db env (gained a f)) in
      let gains = summands_value db env (summands a f.terms) (record { terms = []; constant = f.constant }) in
      let turn = terms_turn f.terms long in
      omega (arith, ints, sum, one, gains, turn)
