use Rattle.std.proofs.Common.{◌-◌, ◌∙◌, List, arith, refl, sym, ap, subst, set}
use Rattle.acc_plain.specs.declared.transactions.Progress.{Progress}
use Rattle.acc_plain.specs.Change.{left_by}
use Rattle.acc_plain.specs.Kept.{joined, AreKept}
use Rattle.acc_plain.proofs.Keeping.{opened, same_open, frames_rise, is_held, number_within, turns_kept, stands_kept, ends_kept}
use Rattle.acc_plain.proofs.transactions.Transactions.change.Goals as goal

pub place-at-requires-clause-rising : goal.place-at-requires-clause-rising
place-at-requires-clause-rising c =
    let ps = c.self.inside.progresses.items in
    let fs = c.self.inside.frames in
    frames_rise ps fs c.args.t c.self.invariant (opened ps fs c.args.t c.self.invariant (rw (← c.self.view_is) at c.requires))

pub place-at-requires-clause-held : goal.place-at-requires-clause-held
place-at-requires-clause-held c =
    let ps = c.self.inside.progresses.items in
    let fs = c.self.inside.frames in
    is_held ps fs c.args.t c.self.invariant (opened ps fs c.args.t c.self.invariant (rw (← c.self.view_is) at c.requires))

pub note-requires-clause-within : goal.note-requires-clause-within
note-requires-clause-within c =
    let ps = c.self.inside.progresses.items in
    let fs = c.self.inside.frames in
    let within = number_within ps fs c.args.t c.self.invariant
    (opened ps fs c.args.t c.self.invariant (rw (← c.self.view_is) at c.requires)) in
    omega (arith, within, c.self.inside.progresses.ok.0)

pub note-requires-in-Ends-clause-within : goal.note-requires-in-Ends-clause-within
note-requires-in-Ends-clause-within c =
    let ps = c.self.inside.progresses.items in
    let fs = c.self.inside.frames in
    let within = number_within ps fs c.args.t c.self.invariant
    (opened ps fs c.args.t c.self.invariant (rw (← c.self.view_is) at c.requires)) in
    omega (arith, within, c.self.inside.progresses.ok.0)

pub invariant_of-self : goal.invariant_of-self
invariant_of-self c =
    let ps = c.self.inside.progresses.items in
    let fs = c.self.inside.frames in
    let kept = c.self.invariant in
    let o = opened ps fs c.args.t kept (rw (← c.self.view_is) at c.requires) in
    let left = turns_kept ps fs c.args.t kept o c.place-at.result c.in-Turns.cause c.turn_back.new.self o.x c.place-at.ensures
    c.turn_back.ensures refl in
    subst (λ (qs : List Progress). AreKept qs c.turn_back.new.self) (sym c.note.ensures) left.kept

pub invariant_of-self-in-Stands : goal.invariant_of-self-in-Stands
invariant_of-self-in-Stands c =
    let ps = c.self.inside.progresses.items in
    let fs = c.self.inside.frames in
    let kept = c.self.invariant in
    let o = opened ps fs c.args.t kept (rw (← c.self.view_is) at c.requires) in
    (stands_kept ps fs c.args.t kept o c.place-at.result c.in-Stands.standing c.go_on.new.self o.x c.place-at.ensures c.go_on.ensures
    refl).kept

pub invariant_of-self-in-Ends : goal.invariant_of-self-in-Ends
invariant_of-self-in-Ends c =
    let ps = c.self.inside.progresses.items in
    let fs = c.self.inside.frames in
    let kept = c.self.invariant in
    let o = opened ps fs c.args.t kept (rw (← c.self.view_is) at c.requires) in
    let left = ends_kept ps fs c.args.t kept o c.place-at.result c.in-Ends.reply c.remove.new.self o.x c.place-at.ensures c.remove.ensures
    refl in
    subst (λ (qs : List Progress). AreKept qs c.remove.new.self) (sym c.note-in-Ends.ensures) left.kept

pub returns-in-Turns : goal.returns-in-Turns
returns-in-Turns c x at =
    let ps = c.self.inside.progresses.items in
    let fs = c.self.inside.frames in
    let kept = c.self.invariant in
    let o = opened ps fs c.args.t kept (rw (← c.self.view_is) at c.requires) in
    let is = same_open ps fs c.args.t o x (rw (← c.self.view_is) at at) in
    let left = turns_kept ps fs c.args.t kept o c.place-at.result c.in-Turns.cause c.turn_back.new.self x c.place-at.ensures
    c.turn_back.ensures is in
    ap (λ (qs : List Progress). joined qs c.turn_back.new.self) c.note.ensures ∙ left.are ∙
    (λ i. set (c.self.view_is i) (c.args.t - 1) (left_by (sym c.in-Turns.is i) x))

pub returns-in-Stands : goal.returns-in-Stands
returns-in-Stands c x at =
    let ps = c.self.inside.progresses.items in
    let fs = c.self.inside.frames in
    let kept = c.self.invariant in
    let o = opened ps fs c.args.t kept (rw (← c.self.view_is) at c.requires) in
    let is = same_open ps fs c.args.t o x (rw (← c.self.view_is) at at) in
    let left = stands_kept ps fs c.args.t kept o c.place-at.result c.in-Stands.standing c.go_on.new.self x c.place-at.ensures
    c.go_on.ensures is in
    left.are ∙ (λ i. set (c.self.view_is i) (c.args.t - 1) (left_by (sym c.in-Stands.is i) x))

pub returns-in-Ends : goal.returns-in-Ends
returns-in-Ends c x at =
    let ps = c.self.inside.progresses.items in
    let fs = c.self.inside.frames in
    let kept = c.self.invariant in
    let o = opened ps fs c.args.t kept (rw (← c.self.view_is) at c.requires) in
    let is = same_open ps fs c.args.t o x (rw (← c.self.view_is) at at) in
    let left = ends_kept ps fs c.args.t kept o c.place-at.result c.in-Ends.reply c.remove.new.self x c.place-at.ensures c.remove.ensures
    is in
    ap (λ (qs : List Progress). joined qs c.remove.new.self) c.note-in-Ends.ensures ∙ left.are ∙
    (λ i. set (c.self.view_is i) (c.args.t - 1) (left_by (sym c.in-Ends.is i) x))
