-- When an obligation is true. The checker of proofs shows it of each obligation, and together they make a design sound.
use Rattle.std.specs.Prelude.{◌≡◌, IsTrue, List, [], length, All, Option, Some, None, slice_get, ℤ, pos, int_le, ⊤}
use Rattle.std.specs.List.{list_all}
use Rattle.acc_base.specs.declared.tables.Row.{Row}
use Rattle.acc_base.specs.declared.designs.At.{At}
use Rattle.acc_base.specs.declared.designs.Design.{Design}
use Rattle.acc_base.specs.declared.designs.TxType.{TxType}
use Rattle.acc_base.specs.declared.sequents.Sequent.{Sequent}
use Rattle.acc_base.specs.declared.sequents.Rule.TheVariants.{Begins, Empty}
use Rattle.acc_base.specs.Linear.{var}
use Rattle.acc_base.specs.Truth.{form_value, rel_true, ClauseTrue}
use Rattle.acc_base.specs.Fits.{RowsFit}
use Rattle.acc_base.specs.PrivateRows.{HasNoPrivate}

-- no private row ends in the own number, whose variable comes behind the locals of the type; a type that isn't there has none
abbrev pub NoneOwnedBy : Design → List Row → List ℤ → Option TxType → Type 0
NoneOwnedBy d db env None = ⊤
NoneOwnedBy d db env (Some x) = HasNoPrivate d (var env (length x.locals)) db

-- the same of the type that the origin names
abbrev pub NoneOwned : Design → List Row → List ℤ → Option At → Type 0
NoneOwned d db env None = ⊤
NoneOwned d db env (Some at) = NoneOwnedBy d db env (slice_get d.types at.ty)

-- the rows of which an obligation speaks: those that fit; where it is of no rows, none at all; where it is of a transaction that
-- begins, those without a private row of the own number
pub record IsAskedOf (d : Design) (q : Sequent) (db : List Row) (env : List ℤ) : Type 0 where
  pub fit : RowsFit d db
  pub vars : length env ≡ q.vars
  pub empty : q.origin.rule ≡ Empty → db ≡ []
  pub fresh : q.origin.rule ≡ Begins → NoneOwned d db env q.origin.at

-- where the hypotheses and relations are true, the goal is at most 0
abbrev pub SequentTrue : Design → Sequent → Type 0
SequentTrue d q =
    (db : List Row) (env : List ℤ) → IsAskedOf d q db env
    → All (ClauseTrue db env) q.hyps
    → IsTrue (list_all (rel_true db env) q.rels)
    → IsTrue (int_le (form_value db env q.goal) (pos 0))
