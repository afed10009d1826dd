-- What stands at a place among numbers that follow each other.
use Rattle.std.proofs.Common.{◌≡◌, ℕ, zero, suc, ◌+◌, ◌<◌, List, [], ◌∷◌, ◌++◌, map, length, drop, get_or, refl, ap, sym, ◌∙◌, arith}
use Rattle.std.proofs.Common.{length-append}
use Rattle.std.specs.Prelude.{slice_get, slice_set, option_map, Some, None}
use Rattle.std.proofs.lemmas.List.{length-map, append-nil}
use Rattle.std.proofs.lemmas.Option.{slice_get_read, slice_get_past, slice_get-map}
use Rattle.std.proofs.Math.Seq.{drop-cons}
use Rattle.acc_base.specs.declared.forms.Lin.{Lin}
use Rattle.acc_base.specs.declared.steps.Read.{Read}
use Rattle.acc_base.specs.declared.steps.Action.{Action}
use Rattle.acc_base.specs.declared.steps.Action.TheVariants.{Put, Del, Set, Add}
use Rattle.acc_base.specs.Reads.{assigned, read_key}
use Rattle.acc_oblig.specs.declared.naming.Naming.{Naming}
use Rattle.acc_oblig.specs.Settings.{with_self}
use Rattle.acc_oblig.specs.Ranges as definitions
use Rattle.acc_oblig.specs.Ranges.{key_number, value_number, read_numbers, in_range, one_action_numbers, numbers_of}
use Rattle.acc_oblig_ranges.specs.declared.found.Found.{Found}
use Rattle.acc_oblig_ranges.specs.declared.found.Found.TheVariants.{Number, Behind}
use Rattle.acc_oblig_ranges.specs.Numbers.{StandsAt, one_read_numbers, action_key, operands}

module _ {U : Type 0} where
  get_front : (xs ys : List U) (k : ℕ) (z : U) → slice_get xs k ≡ Some z → slice_get (xs ++ ys) k ≡ Some z
  get_front [] ys k z e = cc
  get_front (x ∷ xs) ys zero z e = e
  get_front (x ∷ xs) ys (suc k) z e = get_front xs ys k z e

  get_behind : (xs ys : List U) (k left : ℕ) → k ≡ length xs + left → slice_get (xs ++ ys) k ≡ slice_get ys left
  get_behind [] ys k left e = let same : k ≡ left = omega arith in ap (slice_get ys) same
  get_behind (x ∷ xs) ys zero left e = absurd (omega arith)
  get_behind (x ∷ xs) ys (suc k) left e = get_behind xs ys k left (omega arith)

module _ {T U : Type 0} (see : T → U) (ns ms : List U) (place : ℕ) where
  -- a place among the first stands among all
  pub stands_front : (m : T) → slice_get ns place ≡ Some (see m) → StandsAt see (ns ++ ms) place (Number m)
  stands_front m e = get_front ns ms place (see m) e

  -- and one behind them where it stands among the others
  pub stands_behind : (left : ℕ) (f : Found T) → place ≡ length ns + left → StandsAt see ms left f → StandsAt see (ns ++ ms) place f
  stands_behind left (Number m) e h = get_behind ns ms place left e ∙ h
  stands_behind left (Behind n) e h = let l = length-append ns ms in omega arith

-- ---- reads

pub reads_next :
    (me vars : ℕ) (now : List ℕ) (x i : ℕ) (rs : List Read) (r : Read) → i < length rs → r ≡ get_or rs i r
    → one_read_numbers (with_self now me (vars + 1)) x i r ++ read_numbers me vars (slice_set now (assigned r) x) (x + 1) (i + 1)
    (drop (i + 1) rs)
    ≡ read_numbers me vars now x i (drop i rs)
reads_next me vars now x i rs r l e =
    let more : suc i ≡ i + 1 = omega arith in
    let left = read_numbers me vars now x i in
    sym (ap left (drop-cons rs i r l) ∙ (ap (λ (s : Read). left (s ∷ drop (suc i) rs)) (sym e)
    ∙ ap (λ n. left (r ∷ drop n rs)) more))

pub parts_of_read : (n : Naming) (x i : ℕ) (r : Read) → length (one_read_numbers n x i r) ≡ length (read_key r) + 1
parts_of_read n x i r =
    length-append (map (key_number n i) (read_key r)) (value_number x i r ∷ []) ∙ ap (λ k. k + 1) (length-map (read_key r) (key_number n i))

pub key_stands :
    (n : Naming) (x i : ℕ) (r : Read) (place : ℕ) (l : Lin) → place < length (read_key r) → l ≡ get_or (read_key r) place l
    → slice_get (one_read_numbers n x i r) place ≡ Some (key_number n i l)
key_stands n x i r place l h e =
    get_front (map (key_number n i) (read_key r)) (value_number x i r ∷ []) place (key_number n i l)
    (slice_get-map (key_number n i) (read_key r) place
    ∙ ap (option_map (key_number n i)) (slice_get_read (read_key r) (length (read_key r)) place l refl h e))

pub value_stands :
    (n : Naming) (x i : ℕ) (r : Read) (place : ℕ) → place ≡ length (read_key r)
    → slice_get (one_read_numbers n x i r) place ≡ Some (value_number x i r)
value_stands n x i r place e =
    let l = length-map (read_key r) (key_number n i) in
    get_behind (map (key_number n i) (read_key r)) (value_number x i r ∷ []) place 0 (omega arith)

-- ---- actions

pub actions_next :
    (all acts : List Action) (i : ℕ) (a : Action) → i < length acts → a ≡ get_or acts i a
    → one_action_numbers all a ++ numbers_of all (drop (i + 1) acts) ≡ numbers_of all (drop i acts)
actions_next all acts i a l e =
    let more : suc i ≡ i + 1 = omega arith in
    sym (ap (numbers_of all) (drop-cons acts i a l) ∙ (ap (λ (b : Action). numbers_of all (b ∷ drop (suc i) acts)) (sym e)
    ∙ ap (λ n. numbers_of all (a ∷ drop n acts)) more))

pub parts_of_action : (all : List Action) (a : Action) → map in_range (action_key a) ++ operands all a ≡ one_action_numbers all a
parts_of_action all (Put t k vs) = refl
parts_of_action all (Del t k) = append-nil (map in_range k)
parts_of_action all (Set t k c v) = refl
parts_of_action all (Add t k c v) = refl

pub value_of_list : (vs : List Lin) (place : ℕ) (l : Lin) → place < length vs → l ≡ get_or vs place l →
    slice_get (map in_range vs) place ≡ Some (in_range l)
value_of_list vs place l h e =
    slice_get-map in_range vs place ∙ ap (option_map in_range) (slice_get_read vs (length vs) place l refl h e)

pub none_stands : (ns : List definitions.ActionNumber) (place left : ℕ) → place ≡ length ns + left → slice_get ns place ≡ None
none_stands ns place left e = slice_get_past ns place (omega arith)
