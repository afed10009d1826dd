-- What a pass may turn after it has met another one, and after it has asked for a reply.
use Rattle.std.proofs.Common.{◌≡◌, ◌∙◌, sym, subst, ℕ, Bool, true, false, List, Option, Result, Ok, Err}
use Rattle.std.specs.Prelude.{MatchResult, cond, ltb, length}
use Rattle.std.proofs.lemmas.List.{append-nil}
use mathlib.Core.List.{IsPrefix}
use Rattle.acc_base.specs.declared.machines.Event.{Event}
use Rattle.acc_base.specs.declared.machines.Reply.{Reply}
use Rattle.acc_base.specs.Machine.{World}
use Rattle.acc_machine.specs.Kept.{IsKept}
use Rattle.acc_engine.specs.declared.errors.Drawn.{Drawn}
use Rattle.acc_engine.specs.declared.errors.Drawn.TheVariants.{Begun}
use Rattle.acc_engine.specs.declared.errors.EngineError.{EngineError}
use Rattle.acc_pass.specs.declared.views.Known.{Known}
use Rattle.acc_pass.specs.Histories.{longer}
use Rattle.acc_pass.specs.Rules.{Told, Knows}
use Rattle.acc_beside.specs.Serving.{Script}
use Rattle.acc_beside.specs.Calls.{Draws, Acks, Fails, Looks, May}
use Rattle.acc_shared.proofs.Turning.{draws_at, draws_begun, looks_same}

module _ (script : Script) (first : List Event) where
  -- what is seen is the history of a state
  record IsSeen (k : Known) : Type 0 where
    state : World
    kept : IsKept script.design state
    seen : k.seen ≡ state.events

  drawn_seen : (v w : Known) (r : Result Drawn EngineError) → MatchResult r (Draws script first v w) (Fails script.design v w) → IsSeen w
  drawn_seen v w (Ok d) h = record { state = h.new; kept = h.left; seen = h.called.seen ∙ sym h.added }
  drawn_seen v w (Err e) h =
      let l = h.looks in record { state = l.old; kept = l.kept; seen = l.called.seen ∙ append-nil l.old.events }

  met_seen : (v u w : Known) → IsSeen v → IsSeen u → w.seen ≡ longer v.seen u.seen → IsSeen w
  met_seen v u w sv su = by (ltb (length v.seen) (length u.seen))
    where
      by : (b : Bool) → w.seen ≡ cond b u.seen v.seen → IsSeen w
      by true e = record { state = su.state; kept = su.kept; seen = e ∙ su.seen }
      by false e = record { state = sv.state; kept = sv.kept; seen = e ∙ sv.seen }

  looks_on : (v w : Known) → IsSeen w → w.mine ≡ v.mine → Told v w → Looks script.design v w
  looks_on v w s mine told = record {
    old = s.state;
    kept = s.kept;
    called = record {
      begun = subst (λ (l : List Event). IsPrefix v.seen l) s.seen told.0;
      seen = s.seen ∙ sym (append-nil s.state.events);
      mine = mine ∙ sym (append-nil v.mine);
      broken = told.1;
    };
  }

  -- who began a transaction and then met another may turn it
  pub begun_and_met : (v w o u x : Known) (r s : Result Drawn EngineError) (t : ℕ) → Knows first v → Knows first w → Knows first x
      → MatchResult r (Draws script first v w) (Fails script.design v w) → MatchResult s (Draws script first o u) (Fails script.design o u)
      → r ≡ Ok (Begun t) → x.seen ≡ longer w.seen u.seen → x.mine ≡ w.mine → Told w x → May script.design x t
  begun_and_met v w o u x r s t kv kw kx drawn other is seen mine told =
      let may = (draws_begun script first v w kv kw t (draws_at script first v w r (Begun t) is drawn)).0 in
      let met = met_seen w u x (drawn_seen v w r drawn) (drawn_seen o u s other) seen in
      (looks_same script first w x kw kx (looks_on w x met mine told) t).1 may

  -- and who has asked for a reply may turn what it might
  pub may_on : (v w : Known) (r : Result (Option Reply) EngineError) (t : ℕ) → Knows first v → Knows first w
      → MatchResult r (Acks script.design t v w) (Fails script.design v w) → May script.design v t → May script.design w t
  may_on v w (Ok reply) t kv kw h may =
      (looks_same script first v w kv kw (record { old = h.old; kept = h.kept; called = h.called }) t).1 may
  may_on v w (Err e) t kv kw h may = (looks_same script first v w kv kw h.looks t).1 may
