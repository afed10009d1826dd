-- What a text stands for names nothing that is out of range: entries, hints and the whole.
use Rattle.std.proofs.Common.{◌≡◌, ◌<◌, ℕ, zero, suc, true, List, [], ◌∷◌, length, Option, Some, None, arith}
use Rattle.std.specs.Prelude.{nat_lt, slice_get, codes, ℤ}
use Rattle.std.specs.Option.{option_and_then}
use Rattle.std.specs.Cmp.Derive.{both_true}
use Rattle.std.proofs.lemmas.Bool.{lt-ltb}
use Rattle.acc_base.specs.Lines.{point_name}
use Rattle.acc_base.specs.declared.tables.Table.{Table}
use Rattle.acc_base.specs.declared.designs.Point.{Point}
use Rattle.acc_base.specs.declared.designs.TxType.{TxType}
use Rattle.acc_base.specs.declared.designs.At.{At}
use Rattle.acc_base.specs.declared.designs.Entry.{Entry}
use Rattle.acc_base.specs.declared.designs.Hint.{Hint}
use Rattle.acc_base.specs.declared.designs.Design.{Design}
use Rattle.acc_formed.specs.Ranges.{term_in, clause_in, type_in, has_point, at_in, locals_of, pair_in, entry_in, hint_in, design_in}
use Rattle.acc_print.specs.Names.{name_at, outside, names_within, inside}
use Rattle.acc_parse_readback.specs.Printable.{IsName, IsClauseSaid}
use Rattle.acc_parse_readback.specs.PrintableTypes.{IsTypeSaid, IsAtSaid, IsPairSaid, IsEntrySaid, IsHintSaid, IsSaid}
use Rattle.acc_parse_readback.proofs.ValueParts.{not_self}
use Rattle.acc_parse_readback.proofs.ValueRanges.{all_pass, item_there, clause_range}
use Rattle.acc_parse_readback.proofs.TypeRanges.{type_range}

-- ---- locals: `self` is none

local_there : (locals : List (List ℕ)) (n : ℕ) → IsName (name_at (names_within locals) n) → n < length locals
local_there [] zero h = absurd (let wrong = not_self (codes "self") h.1 in cc)
local_there [] (suc n) h = absurd h.0
local_there (x ∷ xs) zero h = omega arith
local_there (x ∷ xs) (suc n) h = let e = local_there xs n h in omega arith

local_in : (tables : List Table) (o : Option TxType) (n : ℕ) → IsName (name_at (inside tables o).names n) → nat_lt n (locals_of o) ≡ true
local_in tables None n h = absurd h.0
local_in tables (Some t) n h = lt-ltb n (length t.locals) (local_there t.locals n h)

-- ---- entries and hints

point_there : (o : Option TxType) (p : ℕ) → IsName (point_name (option_and_then (λ (t : TxType). slice_get t.points p) o)) →
    has_point o p ≡ true
point_there None p h = absurd h.0
point_there (Some t) p h = item_there (λ (o : Option Point). IsName (point_name o)) (λ g. absurd g.0) t.points p h

at_range : (d : Design) (a : At) → IsAtSaid d a → at_in d.types a ≡ true
at_range d a h = point_there (slice_get d.types a.ty) a.point h.point

entry_range : (d : Design) (e : Entry) → IsEntrySaid d e → entry_in d.types e ≡ true
entry_range d e h =
    let held = slice_get d.types e.held.ty in
    let step = slice_get d.types e.step.ty in
    both_true (both_true (at_range d e.held h.held) (at_range d e.step h.step))
    (all_pass (IsPairSaid (inside d.tables held).names (inside d.tables step).names) (pair_in (locals_of held) (locals_of step))
    (λ p g. both_true (local_in d.tables held p.0 g.0) (local_in d.tables step p.1 g.1)) e.pairs h.pairs)

hint_range : (d : Design) (h : Hint) → IsHintSaid d h → hint_in d.types h ≡ true
hint_range d h s =
    let of = slice_get d.types h.at.ty in
    both_true (at_range d h.at s.at)
    (all_pass (λ (t : ℕ × ℤ). IsName (name_at (inside d.tables of).names t.0)) (term_in (locals_of of)) (λ t g. local_in d.tables of t.0 g)
    h.lin.coeffs s.named)

-- ---- the whole

-- every number that names something is in range
pub said_in_range : (d : Design) → IsSaid d → design_in d ≡ true
said_in_range d h =
    both_true
    (both_true (both_true (all_pass (IsClauseSaid (outside d.tables)) (clause_in d.tables 0) (clause_range (outside d.tables)) d.always
    h.always)
    (all_pass (IsTypeSaid d.tables) (type_in d.tables) (type_range d.tables) d.types h.types))
    (all_pass (IsEntrySaid d) (entry_in d.types) (entry_range d) d.entries h.entries))
    (all_pass (IsHintSaid d) (hint_in d.types) (hint_range d) d.hints h.hints)
