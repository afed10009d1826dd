-- Where nobody works, an engine's history goes on by no event.
use Rattle.std.proofs.Common.{◌≡◌, ◌∙◌, ℕ, List, [], Bool, false, Option, sym, ap, arith}
use Rattle.std.specs.Prelude.{nat_lt}
use Rattle.std.specs.List.{filter_map}
use Rattle.std.proofs.lemmas.Bool.Decides.{nat_tests}
use Rattle.std.proofs.lemmas.List.{append-nil, append_cancel_left}
use Rattle.acc_base.specs.declared.machines.Event.{Event}
use Rattle.acc_engine.specs.Keeping.{Journalled, call_of, is_begun}
use Rattle.acc_engine.proofs.Surviving.{survives_none}
use Rattle.acc_crew.specs.Works.{IsUnworked, Works}

none_first : (p : ℕ) → nat_lt p 0 ≡ false
none_first p = grind (arith, nat_tests)

pub works_none : {D : Type 0} (clock : D → ℕ) (left_since : D → ℕ → List ℕ → Type 0) (told : D → Option (List ℕ))
    (may_leave : D → List ℕ → Type 0) (count : D → ℕ)
    (only_now : (disk : D) (image : List ℕ) → left_since disk (clock disk) image → may_leave disk image) (e : Journalled D) → IsUnworked e
    → Works clock left_since told may_leave count e e
works_none clock left_since told may_leave count only_now e fresh =
    let s = survives_none clock left_since told may_leave count only_now e in
    let nothing : s.goes_on.more ≡ [] =
    append_cancel_left e.state.events s.goes_on.more [] (sym s.goes_on.history ∙ sym (append-nil e.state.events)) in
    record {
      survives = s;
      begins = record {
        count = 0;
        within = omega arith;
        begun = ap (λ (events : List Event). filter_map call_of events) nothing;
        marked = λ p. ap (λ (marks : List Bool). is_begun marks p) fresh.begun ∙ sym (none_first p);
      };
    }
