-- Values for a hypothesis's own variables, read off targets.
use Rattle.std.specs.Prelude.{◌==◌, ℕ, Bool, true, false, ◌&&◌, if◌then◌else◌, List, [], ◌∷◌, ◌++◌, length, map, filter, flat_map}
use Rattle.std.specs.Prelude.{Option, Some, None, nat_lt, slice_get}
use Rattle.std.specs.List.{fold, list_all, list_any}
use Rattle.acc_base.specs.declared.forms.Lin.{Lin}
use Rattle.acc_base.specs.Items.{numbers_from}
use Rattle.acc_prover_choices.specs.declared.targets.Target.{Target}
use Rattle.acc_prover_choices.specs.declared.patterns.Pattern.{Pattern}
use Rattle.acc_prover_choices.specs.Parts.{Listing, firsts, unless_crowded}
use Rattle.acc_prover_choices.specs.Atoms.{place_in}
use Rattle.acc_instanced.specs.Instances.{zero_lin}
use Rattle.acc_prover_choices.specs.Targets.{same_lins}

-- ---- the table atoms of a hypothesis, and the place at which each own variable stands alone

-- for each of n own variables, which are numbered from a first one on, the first place of a key at which it stands alone
abbrev pub places_of : ℕ → ℕ → List Lin → List (Option ℕ)
places_of first n key = map (λ x. place_in x key) (numbers_from first n)

abbrev pub pattern_of : ℕ → ℕ → Target → Pattern
pattern_of first n atom = record { table = atom.table; places = places_of first n atom.key }

abbrev pub place_or : Option (Option ℕ) → Option ℕ
place_or None = None
place_or (Some i) = i

-- the place of own variable i, if it stands alone
abbrev pub place_at : List (Option ℕ) → ℕ → Option ℕ
place_at places i = place_or (slice_get places i)

abbrev pub is_there : Option ℕ → Bool
is_there None = false
is_there (Some i) = true

-- every own variable stands alone
abbrev pub is_whole : Pattern → Bool
is_whole p = list_all is_there p.places

-- ---- the targets of a pattern: those of its table that have a component at each of its places

abbrev pub reaches : ℕ → Option ℕ → Bool
reaches n None = true
reaches n (Some i) = nat_lt i n

abbrev pub fits : Pattern → Target → Bool
fits p t = (p.table == t.table) && list_all (reaches (length t.key)) p.places

-- a pattern with one of its targets
abbrev pub Pick : Type 0
Pick = Pattern × Target

abbrev pub picks : List Target → Pattern → List Pick
picks targets p = map (λ t. (p, t)) (filter (fits p) targets)

-- ---- the patterns that are taken where no pattern is whole: each in which an own variable stands alone that does so in none taken before

abbrev pub has_place : ℕ → Pattern → Bool
has_place i p = is_there (place_at p.places i)

abbrev pub is_had : List Pattern → ℕ → Bool
is_had taken i = list_any (has_place i) taken

-- the places of the variables that stand alone in none taken before
abbrev pub new_place : List Pattern → List (Option ℕ) → ℕ → Option ℕ
new_place taken places i = if is_had taken i then None else place_at places i

abbrev pub news_of : List Pattern → List (Option ℕ) → List (Option ℕ)
news_of taken places = map (new_place taken places) (numbers_from 0 (length places))

abbrev pub with_taken : List Pattern → Pattern → List Pattern
with_taken taken p = if list_any is_there (news_of taken p.places) then taken ++ p ∷ [] else taken

abbrev pub taken_of : List Pattern → List Pattern
taken_of patterns = fold with_taken [] patterns

-- each of n own variables stands alone in a taken pattern
abbrev pub have_all : ℕ → List Pattern → Bool
have_all n taken = list_all (is_had taken) (numbers_from 0 n)

-- ---- the choices of targets

-- each choice of one item of each list, the last one changing first
abbrev pub choices : {X : Type 0} → List (List X) → List (List X)
choices [] = [] ∷ []
choices (xs ∷ rest) = flat_map (λ x. map (λ c. x ∷ c) (choices rest)) xs

-- a target of each taken pattern, where they have all own variables
abbrev pub joint_choices : List Target → ℕ → List Pattern → List (List Pick)
joint_choices targets n taken = if have_all n taken then choices (map (picks targets) taken) else []

-- a target of a pattern that has all own variables; where there is no such pattern, one of each taken pattern
abbrev pub all_choices : List Target → ℕ → List Pattern → List (List Pick)
all_choices targets n patterns =
    if list_any is_whole patterns then flat_map (λ p. choices (picks targets p ∷ [])) (filter is_whole patterns) else joint_choices
    targets n (taken_of patterns)

-- ---- values

abbrev pub lin_or : Option Lin → Lin
lin_or None = zero_lin
lin_or (Some l) = l

-- the component of a key at a place, or another value where there is no place
abbrev pub value_by : List Lin → Option ℕ → Lin → Lin
value_by key None other = other
value_by key (Some i) other = lin_or (slice_get key i)

-- the value of own variable i: the component of the first pattern in which it stands alone
abbrev pub value_in : List Pick → ℕ → Lin
value_in [] i = zero_lin
value_in (c ∷ cs) i = value_by c.1.key (place_at c.0.places i) (value_in cs i)

-- the values of n own variables
abbrev pub values_in : ℕ → List Pick → List Lin
values_in n choice = map (value_in choice) (numbers_from 0 n)

-- the values that the choices give, equal ones once
abbrev pub values_of : List Target → ℕ → List Pattern → List (List Lin)
values_of targets n patterns = firsts same_lins (map (values_in n) (all_choices targets n patterns))

abbrev pub by_patterns : List Target → ℕ → List Pattern → Listing (List (List Lin))
by_patterns targets n patterns = unless_crowded (values_of targets n patterns)
