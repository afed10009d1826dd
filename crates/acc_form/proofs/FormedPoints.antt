-- The marks on a point are ends alone exactly where it is well-formed.
use Rattle.std.proofs.Common.{◌≡◌, ℕ, ◌==◌, true, false, ◌&&◌, not, if◌then◌else◌, List, [], ◌∷◌, ◌++◌, length, take, ℤ, pos, refl, ap}
use Rattle.std.proofs.Common.{arith}
use Rattle.std.specs.List.{list_all}
use Rattle.std.proofs.lemmas.Bool.{and_parts, and_from, eqb-true}
use Rattle.std.proofs.lemmas.Bool.Decides.{Decides-int_eq}
use Rattle.std.specs.Ordering.{int_eq}
use Rattle.acc_base.specs.declared.rules.FormRule.TheVariants as rules
use Rattle.acc_base.specs.declared.forms.Lin.{Lin}
use Rattle.acc_base.specs.declared.tables.Table.{Table}
use Rattle.acc_base.specs.declared.designs.Side.TheVariants.{Next, Undo}
use Rattle.acc_base.specs.declared.designs.Point.{Point}
use Rattle.acc_base.specs.declared.designs.TxType.{TxType}
use Rattle.acc_base.specs.Numbers.{is_small}
use Rattle.acc_form.specs.Marks.{ending, asked, numbered}
use Rattle.acc_formed.specs.Sizes.{is_short, term_small, lin_small}
use Rattle.acc_formed.specs.Names.{names_point}
use Rattle.acc_form.specs.Statements.{clause_marks, step_marks, is_zero, variant_marks, point_marks}
use Rattle.acc_formed.specs.WellFormed.{IsPointFormed}
use Rattle.acc_form.proofs.Clean.{Clean, clean_unless, Asks, asks, keeps, clean_parts, clean_from}
use Rattle.acc_form.proofs.FormedSteps.{clauses_open, clauses_shut, step_opens, step_shuts}

-- ---- the variant

none_large : (coeffs : List (ℕ × ℤ)) → length coeffs ≡ 0 → list_all term_small coeffs ≡ true
none_large [] h = refl
none_large (t ∷ ts) h = absurd (omega arith)

zero_small : (l : Lin) → is_zero l ≡ true → lin_small l ≡ true
zero_small l h =
    let p = and_parts (length l.coeffs == 0) (int_eq l.constant (pos 0)) h in
    let is : l.constant ≡ pos 0 = (Decides-int_eq l.constant (pos 0)).0 p.1 in
    and_from (list_all term_small l.coeffs) (is_small l.constant) (none_large l.coeffs (eqb-true (length l.coeffs) 0 p.0)) (ap is_small is)

variant_opens : (l : Lin) → Clean (variant_marks l) → lin_small l ≡ true
variant_opens l h =
    elim (is_zero l) as (λ b. is_zero l ≡ b → Clean (if b then [] else (asked rules.Limits (lin_small l) ++ ending)) → lin_small l ≡ true) [
      | true ↦ λ e g. zero_small l e
      | false ↦ λ e g. (asks rules.Limits (lin_small l) ending g).0
    ] refl h

variant_shuts : (l : Lin) → lin_small l ≡ true → Clean (variant_marks l)
variant_shuts l h = clean_unless (is_zero l) (asked rules.Limits (lin_small l) ++ ending) (keeps rules.Limits (lin_small l) ending h refl)

-- ---- points

point_opens : (tables : List Table) (t : TxType) (i : ℕ) (p : Point) →
    Clean (point_marks tables t i p) → (not (i == 32) ≡ true) × IsPointFormed tables t i p
point_opens tables t i p h =
    let a = asks rules.Limits (not (i == 32) && is_short p.name) _ h in
    let b = asks rules.Names (not (names_point (take i t.points) p.name)) _ a.1 in
    let e = clean_parts (variant_marks p.variant) _ b.1 in
    let f = clean_parts (numbered (clause_marks tables t.locals 64) p.clauses) _ e.1 in
    let g = clean_parts (step_marks tables t Next false p.next) (step_marks tables t Undo (i == 0) p.undo) f.1 in
    let l = and_parts (not (i == 32)) (is_short p.name) a.0 in (
      l.0,
      record {
        limits = l.1;
        new = b.0;
        variant = variant_opens p.variant e.0;
        clauses = clauses_open tables t.locals 64 p.clauses f.0;
        next = step_opens tables t Next false p.next g.0;
        undo = step_opens tables t Undo (i == 0) p.undo g.1;
      },
    )

point_shuts : (tables : List Table) (t : TxType) (i : ℕ) (p : Point) →
    not (i == 32) ≡ true → IsPointFormed tables t i p → Clean (point_marks tables t i p)
point_shuts tables t i p n f =
    keeps rules.Limits (not (i == 32) && is_short p.name) _ (and_from (not (i == 32)) (is_short p.name) n f.limits) (
    keeps rules.Names (not (names_point (take i t.points) p.name)) _ f.new (
    clean_from (variant_marks p.variant) _ (variant_shuts p.variant f.variant) (
    clean_from (numbered (clause_marks tables t.locals 64) p.clauses) _ (clauses_shut tables t.locals 64 p.clauses f.clauses) (
    clean_from (step_marks tables t Next false p.next) (step_marks tables t Undo (i == 0) p.undo)
    (step_shuts tables t Next false p.next f.next) (step_shuts tables t Undo (i == 0) p.undo f.undo)))))

pub point_asks : (tables : List Table) (t : TxType) → Asks (point_marks tables t) 32 (IsPointFormed tables t)
point_asks tables t = record { opens = point_opens tables t; shuts = point_shuts tables t }
