-- A mark of a broken rule stands among the marks of the statement that breaks it.
use Rattle.std.proofs.Common.{◌≡◌, ℕ, suc, List, [], ◌∷◌, ◌++◌, length, refl, sym, ap, subst, ◌∙◌, append_assoc, arith}
use Rattle.std.specs.Prelude.{Contains}
use Rattle.std.specs.List.{flat_map}
use Rattle.std.proofs.lemmas.List.Elements.{Contains-append_right}
use Rattle.acc_base.specs.declared.rules.FormRule.{FormRule}
use Rattle.acc_form.specs.Marks.{Mark, Broken, End}
use Rattle.acc_form.specs.Judged.{Judged, IsBroken}
use Rattle.acc_form.proofs.StatementEnds.{Counts, AreEnded, ends_of, no_statement, recounted, both}
use Rattle.acc_form.proofs.JudgedMarks.{AreOnes, marks_of}

-- so many statements end as there are
pub ones_end : (js : List Judged) → AreOnes js → Counts (flat_map marks_of js) (length js)
ones_end [] h = no_statement
ones_end (j ∷ js) h = recounted (both h.0.once (ones_end js h.1)) (omega arith)

-- no mark stands behind the end of a statement
none_behind : (ms : List Mark) → ends_of ms ≡ 0 → AreEnded ms → ms ≡ []
none_behind [] e h = refl
none_behind (Broken rule ∷ ms) e h = let some = h.0 in absurd (omega (arith, e, some))
none_behind (End ∷ ms) e h = absurd (omega (arith, e))

behind_one : (j : Judged) (js : List Judged) (rule : FormRule) (n : ℕ) → IsBroken js rule n → IsBroken (j ∷ js) rule (suc n)
behind_one j js rule n b =
    record {
      before = j ∷ b.before;
      statement = b.statement;
      after = b.after;
      place = ap (λ (ks : List Judged). j ∷ ks) b.place;
      number = ap suc b.number;
      breaks = b.breaks;
    }

-- the mark is one of these marks of the first statement, or of those behind it
within_one : (j : Judged) (js : List Judged)
    → ((earlier later : List Mark) (rule : FormRule) → flat_map marks_of js ≡ earlier ++ Broken rule ∷ later →
    IsBroken js rule (ends_of earlier))
    → (front ms : List Mark) → j.marks ≡ front ++ ms → Counts ms 1
    → (earlier later : List Mark) (rule : FormRule) → ms ++ flat_map marks_of js ≡ earlier ++ Broken rule ∷ later → IsBroken (j ∷ js) rule
    (ends_of earlier)
within_one j js others front [] is c earlier later rule e = let none = c.ends in absurd (omega (arith, none))
within_one j js others front (Broken r ∷ ms) is c [] later rule e =
    let same : Broken r ≡ Broken rule = cc in
    let there = subst (λ (ns : List Mark). Contains ns (Broken r)) (sym is)
    (Contains-append_right front (Broken r ∷ ms) (Broken r) (0, omega arith, refl)) in
    record { before = []; statement = j; after = js; place = refl; number = refl; breaks = subst (Contains j.marks) same there }
within_one j js others front (Broken r ∷ ms) is c (Broken r' ∷ es) later rule e =
    let behind : ms ++ flat_map marks_of js ≡ es ++ Broken rule ∷ later = cc in
    within_one j js others (front ++ Broken r ∷ []) ms (is ∙ sym (append_assoc front (Broken r ∷ []) ms))
    (record { ends = c.ends; ended = c.ended.1 }) es later rule behind
within_one j js others front (Broken r ∷ ms) is c (End ∷ es) later rule e = absurd cc
within_one j js others front (End ∷ ms) is c [] later rule e = absurd cc
within_one j js others front (End ∷ ms) is c (Broken r' ∷ es) later rule e = absurd cc
within_one j js others front (End ∷ ms) is c (End ∷ es) later rule e =
    let one = c.ends in
    let none = none_behind ms (omega (arith, one)) c.ended in
    let behind : ms ++ flat_map marks_of js ≡ es ++ Broken rule ∷ later = cc in
    behind_one j js rule (ends_of es) (others es later rule
    (subst (λ (ns : List Mark). ns ++ flat_map marks_of js ≡ es ++ Broken rule ∷ later) none behind))

-- so many statements end before the statement that breaks the rule
pub broken_at : (js : List Judged) → AreOnes js → (earlier later : List Mark) (rule : FormRule)
    → flat_map marks_of js ≡ earlier ++ Broken rule ∷ later → IsBroken js rule (ends_of earlier)
broken_at [] h [] later rule e = absurd cc
broken_at [] h (m ∷ es) later rule e = absurd cc
broken_at (j ∷ js) h earlier later rule e = within_one j js (broken_at js h.1) [] j.marks refl h.0.once earlier later rule e
