-- The node of an instance adds what the instance says.
use Rattle.std.proofs.Common.{◌≡◌, ℕ, Bool, true, false, List, [], ◌∷◌, length, map, Some, refl, ap, sym, ◌∙◌}
use Rattle.std.proofs.Common.{if◌then◌else◌}
use Rattle.std.specs.Prelude.{◌||◌, slice_get, All}
use Rattle.std.specs.List.{list_any}
use Rattle.std.proofs.lemmas.Bool.Decides.{Decides-eqb}
use Rattle.std.proofs.lemmas.List.Elements.{All-nil, All-cons, All-head, All-tail}
use Rattle.acc_base.specs.declared.forms.Lin.{Lin}
use Rattle.acc_base.specs.declared.forms.Rel.{Rel}
use Rattle.acc_base.specs.declared.forms.Clause.{Clause}
use Rattle.acc_base.specs.declared.designs.Design.{Design}
use Rattle.acc_base.specs.declared.sequents.Sequent.{Sequent}
use Rattle.acc_farkas.specs.declared.refuting.Mults.{Mults}
use Rattle.acc_instanced.specs.Instances.{fact_at}
use Rattle.acc_axioms.specs.declared.nodes.Node.TheVariants.{Inst}
use Rattle.acc_proof.specs.Checked.{Gives, Fails, and_then}
use Rattle.acc_proof.specs.Facts.{all_shown, used_up}
use Rattle.acc_proof.specs.Proofs as proofs
use Rattle.acc_proof.specs.Proofs.{Branches, only, sure, node_of, after_facts}
use Rattle.acc_inst.specs.declared.making.Instance.{Instance}
use Rattle.acc_inst.specs.Making.{Chosen, rel_at, is_rel_wide, clause_at, is_clause_wide, clause_or, instance_of, is_instance_wide, IsOf}
use Rattle.acc_inst.specs.Making.{is_wide_or}

pub off_both : (a b : Bool) → (a || b) ≡ false → (a ≡ false) × (b ≡ false)
off_both true b h = absurd (cc)
off_both false b h = (refl, h)

surely : (n : ℕ) (ls : List Lin) (r : Rel) → is_rel_wide n ls r ≡ false → fact_at n ls r ≡ sure (rel_at n ls r)
surely n ls r e = λ i. record { rel = (fact_at n ls r).rel; wide = e i }

all_surely : (n : ℕ) (ls : List Lin) (rs : List Rel) → list_any (is_rel_wide n ls) rs ≡ false
    → map (fact_at n ls) rs ≡ map sure (map (rel_at n ls) rs)
all_surely n ls [] h = refl
all_surely n ls (r ∷ rs) h =
    let parts = off_both (is_rel_wide n ls r) (list_any (is_rel_wide n ls) rs) h in
    let here = surely n ls r parts.0 in
    let rest = all_surely n ls rs parts.1 in
    λ i. here i ∷ rest i

-- an instance that is listed: of a hypothesis that is there, with as many values as own variables, and no number too large
abbrev pub IsListed : Sequent → Instance → Type 0
IsListed q x = (i : Chosen) × (x ≡ instance_of q i) × IsOf q i × (is_instance_wide q i ≡ false)

clause_gives : (n : ℕ) (known : List Rel) (i : Chosen) (c : Clause) (ms : List Mults) → length i.1 ≡ length c.vars
    → is_clause_wide n i.1 c ≡ false → all_shown known (map sure (clause_at n i c).guards) ms ≡ Gives []
    → proofs.instance_of n known (Some c) i.1 ms ≡ Gives (((clause_at n i c).rel ∷ []) ∷ [])
clause_gives n known i c ms long narrow shown =
    let ls = i.1 in
    let parts = off_both (list_any (is_rel_wide n ls) c.guards) (is_rel_wide n ls c.rel) narrow in
    let guards = ap (λ fs. all_shown known fs ms) (all_surely n ls c.guards parts.0) ∙ shown in
    let whole = (Decides-eqb (length ls) (length c.vars)).1 long in
    ap (λ b. if b then after_facts known (map (fact_at n ls) c.guards) ms (only (fact_at n ls c.rel)) else Fails) whole
    ∙ (ap (and_then (used_up (only (fact_at n ls c.rel)))) guards ∙ ap only (surely n ls c.rel parts.1))

pub instance_gives : (d : Design) (q : Sequent) (known : List Rel) (x : Instance) (ms : List Mults) → IsListed q x
    → all_shown known (map sure x.guards) ms ≡ Gives [] → node_of d q known (Inst x.hypothesis x.values ms) ≡ Gives ((x.rel ∷ []) ∷ [])
instance_gives d q known x ms (i, same, of, narrow) shown =
    let c = of.0 in
    let here = of.1 in
    let is_clause : x ≡ clause_at q.vars i c = same ∙ ap (clause_or q.vars i) here in
    let narrow_clause : is_clause_wide q.vars i.1 c ≡ false = sym (ap (is_wide_or q.vars i.1) here) ∙ narrow in
    let guards = ap (λ (y : Instance). all_shown known (map sure y.guards) ms) (sym is_clause) ∙ shown in
    let gives = clause_gives q.vars known i c ms of.2 narrow_clause guards in
    let node = ap (λ (y : Instance). proofs.instance_of q.vars known (slice_get q.hyps y.hypothesis) y.values ms) is_clause in
    node ∙ (ap (λ o. proofs.instance_of q.vars known o i.1 ms) here
    ∙ (gives ∙ ap (λ (y : Instance). Gives ((y.rel ∷ []) ∷ [])) (sym is_clause)))

pub all_listed : (q : Sequent) (is : List Chosen) → All (IsOf q) is → list_any (is_instance_wide q) is ≡ false
    → All (IsListed q) (map (instance_of q) is)
all_listed q [] of narrow = All-nil (IsListed q)
all_listed q (i ∷ is) of narrow =
    let parts = off_both (is_instance_wide q i) (list_any (is_instance_wide q) is) narrow in
    All-cons (IsListed q) (instance_of q i) (map (instance_of q) is) (i, refl, All-head (IsOf q) i is of, parts.0)
    (all_listed q is (All-tail (IsOf q) i is of) parts.1)
