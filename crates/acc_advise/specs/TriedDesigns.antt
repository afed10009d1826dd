-- A design with another entry for a held point and a step, and the obligations that the step spares what is asserted there.
use Rattle.std.specs.Prelude.{ℕ, List, [], ◌∷◌, filter, not, Option, option_and_then, option_map, slice_get, if◌then◌else◌}
use Rattle.acc_base.specs.declared.forms.Clause.{Clause}
use Rattle.acc_base.specs.declared.steps.Step.{Step}
use Rattle.acc_base.specs.declared.designs.At.{At}
use Rattle.acc_base.specs.declared.designs.Side.{Side}
use Rattle.acc_base.specs.declared.designs.Entry.{Entry}
use Rattle.acc_base.specs.declared.designs.Point.{Point}
use Rattle.acc_base.specs.declared.designs.TxType.{TxType}
use Rattle.acc_base.specs.declared.designs.Design.{Design}
use Rattle.acc_base.specs.Effects.{step_at}
use Rattle.acc_oblig.specs.Drafts.{Draft, each, of_some, step_paths}
use Rattle.acc_oblig.specs.Spares.{is_for, spare_at}
use Rattle.acc_oblig_places.specs.ManyEntries.{with_entries}
use Rattle.acc_oblig_places.specs.DesignPlaces.{PointPlace}
use Rattle.acc_advise.specs.declared.advice.Question.{Question}

-- ---- designs

-- an entry in place of that for the same held point, step and side, or behind the others where there is none
abbrev pub put_entry : Entry → List Entry → List Entry
put_entry e [] = e ∷ []
put_entry e (x ∷ xs) = if is_for e.held e.step e.side x then e ∷ xs else x ∷ put_entry e xs

abbrev pub with_entry : Design → Entry → Design
with_entry d e = with_entries d (put_entry e d.entries)

-- the design without an entry for what is asked
abbrev pub without_entry : Design → Question → Design
without_entry d q = with_entries d (filter (λ e. not (is_for q.held q.step q.side e)) d.entries)

-- the entry for what is asked that has these pairs
abbrev pub keyed : Question → List (ℕ × ℕ) → Entry
keyed q pairs = record { held = q.held; step = q.step; side = q.side; pairs = pairs }

-- ---- obligations

-- the point at a place
abbrev pub point_in : At → TxType → Option PointPlace
point_in at x = option_map (λ (p : Point). record { at = at; x = x; p = p }) (slice_get x.points at.point)

abbrev pub point_place_at : Design → At → Option PointPlace
point_place_at d at = option_and_then (point_in at) (slice_get d.types at.ty)

-- that the paths of a step spare the clauses of a held point: by clause, and then path by path
abbrev pub clause_spares : Design → Side → PointPlace → PointPlace → Step → ℕ → Clause → List Draft
clause_spares d side h s step k c = step_paths (spare_at d h.at h.x h.p k c) s.at side s.x s.p step

abbrev pub spares_of : Design → Side → PointPlace → PointPlace → Step → List Draft
spares_of d side h s step = each (clause_spares d side h s step) h.p.clauses

-- all obligations of a design that the step spares the held point
abbrev pub spares_in : Design → Question → List Draft
spares_in d q =
    of_some (λ (h : PointPlace). of_some (λ (s : PointPlace). spares_of d q.side h s (step_at q.side s.p)) (point_place_at d q.step))
    (point_place_at d q.held)

-- without an entry for what is asked, and with one that has these pairs
abbrev pub free_drafts : Design → Question → List Draft
free_drafts d q = spares_in (without_entry d q) q

abbrev pub keyed_drafts : Design → Question → List (ℕ × ℕ) → List Draft
keyed_drafts d q pairs = spares_in (with_entry d (keyed q pairs)) q
