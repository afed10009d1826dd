-- One thing is said of a script and an order.
use Rattle.std.proofs.Common.{◌≡◌, ℕ, ◌<◌, ◌^◌, true, false, List, ◌++◌, length, refl, sym, ap, subst, ◌∙◌, inl, inr, arith}
use Rattle.std.specs.Prelude.{codes}
use Rattle.std.specs.Fmt.{decimal}
use Rattle.acc_base.specs.declared.designs.Design.{Design}
use Rattle.acc_base.specs.declared.machines.Call.{Call}
use Rattle.acc_base.specs.Lines.{line}
use Rattle.acc_commands_journals.proofs.Admitting.{accepted_reports}
use Rattle.acc_commands_journals.proofs.OneReported.{reports_once}
use Rattle.acc_commands_journals.specs.Admissions.{IsAcceptedWith}
use Rattle.acc_script.specs.CallLines.{SaysCall, IsScript, most_calls}
use Rattle.acc_script.specs.OrderLines.{SaysPlaces, IsOrder, most_numbers}
use Rattle.acc_script.proofs.LineSteps.{one_said_by, one_refused_line}
use Rattle.acc_script.proofs.CallSteps.{says_one as says_one_call}
use Rattle.acc_script.proofs.OrderSteps.{says_one as says_one_line}
use Rattle.acc_commands_files.proofs.OneTold.{tells_once}
use Rattle.acc_commands_files.proofs.OneSchedule.{schedules_once}
use Rattle.acc_journalled.specs.declared.answers.Ending.TheVariants.{ScriptRefused}
use Rattle.acc_commands_journals.specs.Text.{Said}
use Rattle.acc_commands_journals.specs.Scripts.{RefusesOrder, SaysOfOrder, RefusesScript, SaysOfScript}
use Rattle.acc_commands_files.specs.PlayFiles.{SaysPlay}
use Rattle.acc_commands_files.specs.ScheduleFiles.{SaysSchedule, SaysOfCertificate, ending_at}
use Rattle.acc_commands_journals.specs.Refusals.{RefusesCertificate}
use Rattle.acc_commands_journals.proofs.OneDesign.{said_same}

-- ---- scripts and orders

-- one thing is said of calls in an order
abbrev pub IsOnce : (List Call → List ℕ → Said → Type 0) → Type 0
IsOnce SaysRun = (calls : List Call) (order : List ℕ) (a b : Said) → SaysRun calls order a → SaysRun calls order b → a ≡ b

pub one_order_refusal : (calls : List Call) (order : List ℕ) (a b : Said) → length calls < 2 ^ 64 → RefusesOrder calls order a
    → RefusesOrder calls order b → a ≡ b
one_order_refusal calls order a b few h k =
    let same =
    one_refused_line (SaysPlaces (length calls)) (says_one_line (length calls) few) most_numbers order h.at k.at h.first k.first in
    said_same ScriptRefused _ _ a b (ap (λ (at : ℕ). line (codes "refused order " ++ decimal at)) same) h.says k.says

pub one_numbers : (calls : List Call) (order one other : List ℕ) → length calls < 2 ^ 64 → IsOrder (length calls) order one
    → IsOrder (length calls) order other → one ≡ other
one_numbers calls order one other few h k =
    one_said_by (SaysPlaces (length calls)) (says_one_line (length calls) few) most_numbers order one other h k

pub one_script_refusal : (d : Design) (script : List ℕ) (a b : Said) → RefusesScript d script a → RefusesScript d script b → a ≡ b
one_script_refusal d script a b h k =
    let same = one_refused_line (SaysCall d) (says_one_call d) most_calls script h.at k.at h.first k.first in
    said_same ScriptRefused _ _ a b (ap (λ (at : ℕ). line (codes "refused script " ++ decimal at)) same) h.says k.says

pub one_calls : (d : Design) (script : List ℕ) (one other : List Call) → IsScript d script one → IsScript d script other → one ≡ other
one_calls d script one other h k = one_said_by (SaysCall d) (says_one_call d) most_calls script one other h k

module _ (SaysRun : List Call → List ℕ → Said → Type 0) (once : IsOnce SaysRun) where
  one_of_order :
      (calls : List Call) (order : List ℕ) (a b : Said) → length calls < 2 ^ 64 → SaysOfOrder SaysRun calls order a
      → SaysOfOrder SaysRun calls order b → a ≡ b
  one_of_order calls order a b few (inl h) (inl k) = one_order_refusal calls order a b few h k
  one_of_order calls order a b few (inl h) (inr k) = absurd (h.none k.numbers k.is_order)
  one_of_order calls order a b few (inr h) (inl k) = absurd (k.none h.numbers h.is_order)
  one_of_order calls order a b few (inr h) (inr k) =
      let same = one_numbers calls order h.numbers k.numbers few h.is_order k.is_order in
      once calls k.numbers a b (subst (λ (ns : List ℕ). SaysRun calls ns a) same h.says) k.says

  pub one_of_script :
      (d : Design) (script order : List ℕ) (a b : Said) → SaysOfScript SaysRun d script order a → SaysOfScript SaysRun d script order b
      → a ≡ b
  one_of_script d script order a b (inl h) (inl k) = one_script_refusal d script a b h k
  one_of_script d script order a b (inl h) (inr k) = absurd (h.none k.calls k.is_script)
  one_of_script d script order a b (inr h) (inl k) = absurd (k.none h.calls h.is_script)
  one_of_script d script order a b (inr h) (inr k) =
      let same = one_calls d script h.calls k.calls h.is_script k.is_script in
      one_of_order k.calls order a b (omega (arith, k.is_script.few))
      (subst (λ (cs : List Call). SaysOfOrder SaysRun cs order a) same h.says) k.says

-- ---- plays

pub one_play : (d : Design) → IsOnce (SaysPlay d)
one_play d calls order a b h k =
    let same = tells_once d calls order a.text b.text a.history b.history h.1 k.1 in
    λ i. record { ending = (h.0 ∙ sym k.0) i; text = same.0 i; history = same.1 i }

-- ---- schedules

pub one_schedule : (d : Design) → IsOnce (SaysSchedule d)
one_schedule d calls order a b h k =
    let same = schedules_once d calls order a.text b.text a.history b.history h.all_begun k.all_begun h.tells k.tells in
    λ i. record { ending = (h.ending ∙ ap ending_at same.2 ∙ sym k.ending) i; text = same.0 i; history = same.1 i }

false_true : false ≡ true → ⊥
false_true e = cc

pub accepted_or_refused :
    (d : Design) (certificate : List ℕ) (a : Said) → IsAcceptedWith d certificate → RefusesCertificate d certificate a → ⊥
accepted_or_refused d certificate a accepted refused =
    let text = line (codes "accepted") in
    let report = accepted_reports d certificate text accepted refl in
    false_true (reports_once d certificate false true a.text text refused.reports report).0

pub one_certificate_refusal :
    (d : Design) (certificate : List ℕ) (a b : Said) → RefusesCertificate d certificate a → RefusesCertificate d certificate b → a ≡ b
one_certificate_refusal d certificate a b h k =
    let same = reports_once d certificate false false a.text b.text h.reports k.reports in
    λ i. record { ending = (h.ending ∙ sym k.ending) i; text = same.1 i; history = (h.history ∙ sym k.history) i }

pub one_certified :
    (d : Design) (certificate script order : List ℕ) (a b : Said) → SaysOfCertificate d certificate script order a
    → SaysOfCertificate d certificate script order b → a ≡ b
one_certified d certificate script order a b (inl h) (inl k) = one_certificate_refusal d certificate a b h k
one_certified d certificate script order a b (inl h) (inr k) = absurd (accepted_or_refused d certificate a k.accepted h)
one_certified d certificate script order a b (inr h) (inl k) = absurd (accepted_or_refused d certificate b h.accepted k)
one_certified d certificate script order a b (inr h) (inr k) =
    one_of_script (SaysSchedule d) (one_schedule d) d script order a b h.says k.says
