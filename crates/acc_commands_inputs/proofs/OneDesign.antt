-- A text is that of one design, or is refused in one way.
use Rattle.std.proofs.Common.{◌≡◌, ℕ, ◌-◌, ◌<◌, ◌≤◌, List, [], ◌++◌, length, None, Some, sym, ap, subst, ◌∙◌, inl, inr, append_assoc, arith}
use Rattle.std.specs.Prelude.{◌⊎◌, codes, Contains}
use Rattle.std.specs.Fmt.{decimal}
use Rattle.acc_base.specs.declared.designs.Design.{Design}
use Rattle.acc_base.specs.Lines.{line}
use Rattle.acc_base.specs.Numbering.{form_rule_number, limit_number}
use Rattle.acc_lex.proofs.WholeTexts.{one_reading}
use Rattle.acc_parse_readback.proofs.WholeLaws.{one_tree}
use Rattle.acc_parse_statements.specs.Lines.{first_lines, IsLineOf}
use Rattle.acc_parse_statements.proofs.FirstLines.{later_lines}
use Rattle.acc_parse_statements.proofs.OneLine.{one_line_of}
use Rattle.acc_parse_readback.specs.NamesFaults.{first_fault_of}
use Rattle.acc_base.specs.declared.limits.Limit.{Limit}
use Rattle.acc_parse_readback.specs.Designs.{design_of}
use Rattle.acc_parse_readback.specs.Texts.{IsGrammatical, IsDesignText, past_limits}
use Rattle.acc_parse_readback.specs.Syntax.{IsWrongAt}
use Rattle.acc_parse_readback.specs.Faults.{Refuses, IsNameFaultAt, IsLimitAt}
use Rattle.acc_parse_readback.specs.ParseError.{ParseError}
use Rattle.acc_parse_readback.specs.ParseError.TheVariants as errors
use Rattle.acc_form.specs.Faults.{form_faults, is_before}
use Rattle.acc_base.specs.Leasts.{IsLeast}
use Rattle.acc_formed.specs.WellFormed.{IsWellFormed}
use Rattle.acc_form.proofs.OneFault.{one_least}
use Rattle.acc_form.proofs.Placed.{faulty_of_least}
use Rattle.acc_journalled.specs.declared.answers.Ending.{Ending}
use Rattle.acc_journalled.specs.declared.answers.Ending.TheVariants.{DesignRefused}
use Rattle.acc_commands_inputs.specs.Text.{Said, Says}
use Rattle.acc_commands_inputs.specs.Refusals.{SaysError, RefusesForm, RefusesDesign}

pub said_same : (ending : Ending) (t u : List ℕ) (a b : Said) → t ≡ u → Says ending t a → Says ending u b → a ≡ b
said_same ending t u a b same h k = λ i. record { ending = (h.0 ∙ sym k.0) i; text = (h.1 ∙ same ∙ sym k.1) i; history = (h.2 ∙ sym k.2) i }

-- ---- a text is that of one design, or is refused in one way

one_grammar : (text : List ℕ) (g k : IsGrammatical text) → g.tree ≡ k.tree
one_grammar text g k =
    one_tree g.tree k.tree (sym g.spelled.spelled ∙ one_reading text g.words k.words g.lexed k.lexed ∙ k.spelled.spelled)

pub one_design : (text : List ℕ) (d e : Design) → IsDesignText text d → IsDesignText text e → d ≡ e
one_design text d e h k = h.means ∙ ap design_of (one_grammar text h.of k.of) ∙ sym k.means

none_contained : {X : Type 0} (xs : List X) (x : X) → xs ≡ [] → Contains xs x → ⊥
none_contained {X} xs x e c = let lt : c.0 < 0 = subst (λ (ys : List X). c.0 < length ys) e c.1 in absurd (omega (arith, lt))

none_some : {X : Type 0} (x : X) → None ≡ Some x → ⊥
none_some x e = cc

some_same : {X : Type 0} (x y : X) → Some x ≡ Some y → x ≡ y
some_same x y e = cc

read_or_refused : (text : List ℕ) (d : Design) (e : ParseError) (said : Said) → IsDesignText text d → Refuses text e → SaysError e said → ⊥
read_or_refused text d (errors.Syntax at) said h r s = r.none h.of
read_or_refused text d (errors.Name at) said h r s =
    none_some r.statement (sym h.allowed.names ∙ ap first_fault_of (one_grammar text h.of r.of) ∙ r.first)
read_or_refused text d (errors.Limit at which) said h r s =
    none_contained (past_limits r.of.tree) (r.passed.statement, which)
    (ap past_limits (one_grammar text r.of h.of) ∙ h.allowed.limits) r.passed.there
read_or_refused text d errors.Memory said h r s = s

no_earlier_wrong : (text : List ℕ) (m n : ℕ) → IsWrongAt text m → IsWrongAt text n → m < n → ⊥
no_earlier_wrong text m n h k lt =
    let later = later_lines m (n - 1) text (omega (arith, lt)) in
    let more = k.begins.0 in
    h.stops (omega (arith, lt, k.high)) (
      later.0 ++ more,
      subst IsGrammatical (ap (λ (z : List ℕ). z ++ more) later.1 ∙ append_assoc (first_lines m text) later.0 more) k.begins.1,
    )

one_wrong : (text : List ℕ) (m n : ℕ) → IsWrongAt text m → IsWrongAt text n → m ≡ n
one_wrong text m n h k =
    let not_less : ¬ (m < n) = no_earlier_wrong text m n h k in
    let not_more : ¬ (n < m) = no_earlier_wrong text n m k h in
    omega (arith, not_less, not_more)

one_name_line : (text : List ℕ) (m n : ℕ) → IsNameFaultAt text m → IsNameFaultAt text n → m ≡ n
one_name_line text m n h k =
    let same : h.statement ≡ k.statement =
    some_same h.statement k.statement (sym h.first ∙ ap first_fault_of (one_grammar text h.of k.of) ∙ k.first) in
    one_line_of text k.statement m n (subst (λ (s : ℕ). IsLineOf text s m) same h.on_line) k.on_line

both_first : (m n v w : ℕ) → (m < n) ⊎ ((m ≡ n) × (v ≤ w)) → (n < m) ⊎ ((n ≡ m) × (w ≤ v)) → (m ≡ n) × (v ≡ w)
both_first m n v w (inl h) (inl k) = absurd (omega (arith, h, k))
both_first m n v w (inl h) (inr k) = absurd (omega (arith, h, k.0))
both_first m n v w (inr h) (inl k) = absurd (omega (arith, h.0, k))
both_first m n v w (inr h) (inr k) = (h.0, omega (arith, h.1, k.1))

one_limit : (text : List ℕ) (m n : ℕ) (v w : Limit) → IsLimitAt text m v → IsLimitAt text n w →
    (m ≡ n) × (limit_number v ≡ limit_number w)
one_limit text m n v w h k =
    let faults : past_limits h.of.tree ≡ past_limits k.of.tree = ap past_limits (one_grammar text h.of k.of) in
    let first =
    h.passed.first k.passed.statement w n
    (subst (λ (xs : List (ℕ × Limit)). Contains xs (k.passed.statement, w)) (sym faults) k.passed.there) k.passed.on_line in
    let second =
    k.passed.first h.passed.statement v m
    (subst (λ (xs : List (ℕ × Limit)). Contains xs (h.passed.statement, v)) faults h.passed.there) h.passed.on_line in
    both_first m n (limit_number v) (limit_number w) first second

name_or_limit : (text : List ℕ) (m n : ℕ) (w : Limit) → IsNameFaultAt text m → IsLimitAt text n w → ⊥
name_or_limit text m n w h k = none_some h.statement (sym k.named ∙ ap first_fault_of (one_grammar text k.of h.of) ∙ h.first)

one_error : (text : List ℕ) (e f : ParseError) (a b : Said) → Refuses text e → Refuses text f → SaysError e a → SaysError f b → a ≡ b
one_error text (errors.Syntax m) (errors.Syntax n) a b h k s r =
    said_same DesignRefused _ _ a b (ap (λ (at : ℕ). line (codes "refused syntax " ++ decimal at)) (one_wrong text m n h k)) s r
one_error text (errors.Syntax m) (errors.Name n) a b h k s r = absurd (h.none k.of)
one_error text (errors.Syntax m) (errors.Limit n w) a b h k s r = absurd (h.none k.of)
one_error text (errors.Syntax m) errors.Memory a b h k s r = absurd r
one_error text (errors.Name m) (errors.Syntax n) a b h k s r = absurd (k.none h.of)
one_error text (errors.Name m) (errors.Name n) a b h k s r =
    said_same DesignRefused _ _ a b (ap (λ (at : ℕ). line (codes "refused name " ++ decimal at)) (one_name_line text m n h k)) s r
one_error text (errors.Name m) (errors.Limit n w) a b h k s r = absurd (name_or_limit text m n w h k)
one_error text (errors.Name m) errors.Memory a b h k s r = absurd r
one_error text (errors.Limit m v) (errors.Syntax n) a b h k s r = absurd (k.none h.of)
one_error text (errors.Limit m v) (errors.Name n) a b h k s r = absurd (name_or_limit text n m v k h)
one_error text (errors.Limit m v) (errors.Limit n w) a b h k s r =
    let same = one_limit text m n v w h k in
    said_same DesignRefused _ _ a b (λ i. line (codes "refused limit " ++ (decimal (same.0 i) ++ (codes " " ++ decimal (same.1 i))))) s r
one_error text (errors.Limit m v) errors.Memory a b h k s r = absurd r
one_error text errors.Memory f a b h k s r = absurd s

-- ---- a design breaks one rule first

one_form : (text : List ℕ) (a b : Said) → RefusesForm text a → RefusesForm text b → a ≡ b
one_form text a b h k =
    let same : h.d ≡ k.d = one_design text h.d k.d h.is_text k.is_text in
    let first =
    one_least (form_faults k.d) h.rule h.at k.rule k.at
    (subst (λ (d : Design). IsLeast is_before (form_faults d) (h.rule, h.at)) same h.first) k.first in
    said_same DesignRefused _ _ a b
    (λ i. line (codes "refused form " ++ (decimal (form_rule_number (first.0 i)) ++ (codes " " ++ decimal (first.1 i))))) h.says k.says

pub one_refusal : (text : List ℕ) (a b : Said) → RefusesDesign text a → RefusesDesign text b → a ≡ b
one_refusal text a b (inl h) (inl k) = one_error text h.error k.error a b h.refused k.refused h.says k.says
one_refusal text a b (inl h) (inr k) = absurd (read_or_refused text k.d h.error a k.is_text h.refused h.says)
one_refusal text a b (inr h) (inl k) = absurd (read_or_refused text h.d k.error b h.is_text k.refused k.says)
one_refusal text a b (inr h) (inr k) = one_form text a b h k

pub formed_or_refused : (text : List ℕ) (d : Design) (a : Said) → IsDesignText text d → IsWellFormed d → RefusesDesign text a → ⊥
formed_or_refused text d a is_text formed (inl h) = read_or_refused text d h.error a is_text h.refused h.says
formed_or_refused text d a is_text formed (inr h) =
    faulty_of_least d (h.rule, h.at)
    (subst (λ (z : Design). IsLeast is_before (form_faults z) (h.rule, h.at)) (one_design text h.d d h.is_text is_text) h.first) formed
