-- From what the keeper and the engine did under the lock to what the caller is told.
use Rattle.std.proofs.Common.{◌≡◌, ℕ, List, [], ◌++◌, length, Bool, true, false, Option, Some, None, Result, Ok, Err}
use Rattle.std.proofs.Common.{sym, ap, ◌∙◌, subst, arith}
use Rattle.std.specs.Prelude.{MatchResult, MatchOption, IfSome}
use Rattle.std.proofs.lemmas.List.{append-nil}
use mathlib.Core.List.{IsPrefix}
use Rattle.acc_base.specs.declared.designs.Design.{Design}
use Rattle.acc_base.specs.declared.machines.Event.{Event}
use Rattle.acc_base.specs.declared.machines.Reply.{Reply}
use Rattle.acc_base.specs.declared.machines.Turn.{Turn}
use Rattle.acc_machine.specs.Kept.{IsKept}
use Rattle.acc_engine.specs.Keeping.{Journalled}
use Rattle.acc_engine.specs.declared.errors.Drawn.{Drawn}
use Rattle.acc_engine.specs.declared.errors.EngineError.{EngineError}
use Rattle.acc_pass.specs.declared.views.Known.{Known}
use Rattle.acc_pass.specs.Rules.{known}
use Rattle.acc_pass.proofs.Lists.{prefix_trans, prefix_length}
use Rattle.acc_workers.specs.declared.turners.Why.{Why}
use Rattle.acc_workers.specs.declared.turners.Why.TheVariants as why
use Rattle.acc_beside.specs.Serving.{Script, IsCause}
use Rattle.acc_beside.specs.Calls.{placed, Tied, Called, Draws, Turns, Settles, Acks, Looks, Fails, ShowsFault, Shows}

-- what the keeper knows of a pass that it took in
pub record Taken (v j : Known) : Type 0 where
  pub begun : IsPrefix v.seen j.seen
  pub mine : j.mine ≡ v.mine
  pub broken : v.broken ≡ true → j.broken ≡ true

-- the pass that is split off the keeper again
abbrev pub half : Known → Known
half k = known false k.broken k.seen k.mine

module _ (d : Design) (v j k w : Known) (t : Taken v j) (is : w ≡ half k) where
  through : (log own : List Event) → Called j k log own → Called v w log own
  through log own c = record {
    begun = prefix_trans v.seen j.seen log t.begun c.begun;
    seen = ap (λ (x : Known). x.seen) is ∙ c.seen;
    mine = ap (λ (x : Known). x.mine) is ∙ c.mine ∙ ap (λ (l : List (ℕ × Event)). l ++ placed (length log) own) t.mine;
    broken = λ b. ap (λ (x : Known). x.broken) is ∙ c.broken (t.broken b);
  }

  looks_through : Looks d j k → Looks d v w
  looks_through l = record { old = l.old; kept = l.kept; called = through l.old.events [] l.called }

  fault_through : (error : EngineError) → ShowsFault error k.broken → ShowsFault error w.broken
  fault_through error shown = subst (ShowsFault error) (sym (ap (λ (x : Known). x.broken) is)) shown

  fails_through : (error : EngineError) → Fails d j k error → Fails d v w error
  fails_through error f = record { looks = looks_through f.looks; shown = fault_through error f.shown }

  pub draws_through : (script : Script) (first : List Event) (r : Result Drawn EngineError)
      → MatchResult r (Draws script first j k) (Fails d j k) → MatchResult r (Draws script first v w) (Fails d v w)
  draws_through script first (Ok x) h = record {
    old = h.old;
    new = h.new;
    own = h.own;
    kept = h.kept;
    left = h.left;
    draws = h.draws;
    added = h.added;
    called = through h.old.events h.own h.called;
  }
  draws_through script first (Err e) f = fails_through e f

  pub turns_through : (t : ℕ) (r : Result Turn EngineError) → MatchResult r (Turns d t j k) (Fails d j k)
      → MatchResult r (Turns d t v w) (Fails d v w)
  turns_through t (Ok x) h = record {
    old = h.old;
    new = h.new;
    own = h.own;
    kept = h.kept;
    left = h.left;
    unfinished = h.unfinished;
    turns = h.turns;
    makes = h.makes;
    added = h.added;
    called = through h.old.events h.own h.called;
  }
  turns_through t (Err e) f = fails_through e f

  pub settles_through : (r : Result ℕ EngineError) → MatchResult r (Settles d j k) (Fails d j k)
      → MatchResult r (Settles d v w) (Fails d v w)
  settles_through (Ok x) h = record { old = h.old; kept = h.kept; count_is = h.count_is; called = through h.old.events [] h.called }
  settles_through (Err e) f = fails_through e f

  pub acks_through : (t : ℕ) (r : Result (Option Reply) EngineError) → MatchResult r (Acks d t j k) (Fails d j k)
      → MatchResult r (Acks d t v w) (Fails d v w)
  acks_through t (Ok x) h = record { old = h.old; kept = h.kept; reply_is = h.reply_is; called = through h.old.events [] h.called }
  acks_through t (Err e) f = fails_through e f

-- the keeper, as the type keeps it
pub taken : (keeper v j : Known) → (j.keeps ≡ true) × (j.seen ≡ keeper.seen) × (j.broken ≡ keeper.broken) × (j.mine ≡ v.mine)
    → IsPrefix v.seen keeper.seen → (v.broken ≡ true → keeper.broken ≡ true) → Taken v j
taken keeper v j tied begun broke = record {
  begun = subst (λ (l : List Event). IsPrefix v.seen l) (sym tied.1) begun;
  mine = tied.3;
  broken = λ b. tied.2 ∙ broke b;
}

pub keeper_is : {D : Type 0} (keeper : Known) (e : Journalled D) → Some keeper ≡ Some (known true e.failed e.state.events [])
    → keeper ≡ known true e.failed e.state.events []
keeper_is keeper e is = cc

pub tied_as : {D : Type 0} (keeper v j : Known) (e : Journalled D) → Some keeper ≡ Some (known true e.failed e.state.events [])
    → (j.keeps ≡ true) × (j.seen ≡ keeper.seen) × (j.broken ≡ keeper.broken) × (j.mine ≡ v.mine) → Tied j e
tied_as keeper v j e is tied =
    let k = keeper_is keeper e is in
    (tied.0, tied.1 ∙ ap (λ (x : Known). x.seen) k, tied.2 ∙ ap (λ (x : Known). x.broken) k)

-- a look at the history
pub looks_at : {D : Type 0} (d : Design) (e : Journalled D) (v j w : Known) → IsKept d e.state → Tied j e → Taken v j → w ≡ half j
    → Looks d v w
looks_at d e v j w kept tied t is = record {
  old = e.state;
  kept = kept;
  called = record {
    begun = subst (λ (l : List Event). IsPrefix v.seen l) tied.1 t.begun;
    seen = ap (λ (x : Known). x.seen) is ∙ tied.1 ∙ sym (append-nil e.state.events);
    mine = ap (λ (x : Known). x.mine) is ∙ t.mine ∙ sym (append-nil v.mine);
    broken = λ b. ap (λ (x : Known). x.broken) is ∙ t.broken b;
  };
}

-- ---- causes of a halt

pub cause_on : (d : Design) (xs ys : List Event) (a b : Bool) (cause : Why) → IsPrefix xs ys → (a ≡ true → b ≡ true) → IsCause d xs a cause
    → IsCause d ys b cause
cause_on d xs ys a b why.Full p more h = let l = prefix_length xs ys p in omega arith
cause_on d xs ys a b why.Crowd p more h =
    record { past = h.past; front = prefix_trans h.past xs ys h.front p; state = h.state; run = h.run; many = h.many }
cause_on d xs ys a b why.Disk p more h = more h
cause_on d xs ys a b why.Memory p more h = tt

pub cause_as : (d : Design) (xs ys : List Event) (a b : Bool) (cause : Why) → xs ≡ ys → a ≡ b → IsCause d xs a cause → IsCause d ys b cause
cause_as d xs ys a b cause p q h = subst (λ (l : List Event). IsCause d l b cause) p (subst (λ (x : Bool). IsCause d xs x cause) q h)

-- what halts the run still does
pub halted_on : (d : Design) (xs ys : List Event) (a b : Bool) (halted : Option Why)
    → ((cause : Why) → IsCause d xs a cause → IsCause d ys b cause) → MatchOption halted (Unit {0}) (λ cause. IsCause d xs a cause)
    → MatchOption halted (Unit {0}) (λ cause. IsCause d ys b cause)
halted_on d xs ys a b None on h = tt
halted_on d xs ys a b (Some cause) on h = on cause h

-- and the pass that looks shows it
pub shows_cause : {D : Type 0} (d : Design) (e : Journalled D) (j w : Known) (halted : Option Why) → Tied j e → w ≡ half j
    → MatchOption halted (Unit {0}) (λ cause. IsCause d e.state.events e.failed cause) → IfSome halted (λ cause. Shows d w cause)
shows_cause d e j w None tied is h = tt
shows_cause d e j w (Some cause) tied is h =
    cause_as d e.state.events w.seen e.failed w.broken cause (sym (ap (λ (x : Known). x.seen) is ∙ tied.1))
    (sym (ap (λ (x : Known). x.broken) is ∙ tied.2)) h

-- a cause that a pass shows is one of the engine's
pub cause_shown : {D : Type 0} (d : Design) (e : Journalled D) (v j : Known) (cause : Why) → Taken v j → Tied j e → Shows d v cause
    → IsCause d e.state.events e.failed cause
cause_shown d e v j cause t tied h =
    cause_as d j.seen e.state.events j.broken e.failed cause tied.1 tied.2
    (cause_on d v.seen j.seen v.broken j.broken cause t.begun t.broken h)
