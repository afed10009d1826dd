use Rattle.std.proofs.Common.{◌∙◌, sym, ap, subst, length, ◌+◌, refl, Some}
use Rattle.std.specs.BTreeMap.{is_at as at, insert_entry}
use Rattle.acc_base.specs.Tables.{place_cmp}
use Rattle.acc_store.specs.Changes.{HasTaken, HasRefused}
use Rattle.acc_store.specs.Landings.{Lands, HasCome}
use Rattle.acc_store.specs.Rows.{entry_at, IsUp}
use Rattle.acc_store.specs.Runs.{Alters, all_of}
use Rattle.acc_store.proofs.Laid.{length_changed, length_inserted, on_err, on_ok}
use Rattle.acc_store.proofs.Landed.{come_there, come_new, refused_none, on_err_so}
use Rattle.acc_store.proofs.Live.{content}
use Rattle.acc_store.proofs.entries.Entries.write.Goals as goal

pub invariant_of-self : goal.invariant_of-self
invariant_of-self c = (
  c.in_err-land.ensures.laid,
  c.self.invariant.1 ∙ sym (length_changed (at (place_cmp c.args.place)) (HasRefused c.args.cells.now) (all_of c.self.inside.runs)
      (all_of c.land.new.runs) c.in_err-land.ensures.err),
)

pub returns-in_err-land-clause-err : goal.returns-in_err-land-clause-err
returns-in_err-land-clause-err c =
    on_err c.from_residual.result
    (subst (λ s. Alters c.args.place (HasRefused c.args.cells.now) s.entries (all_of c.land.new.runs)) c.self.view_is
    c.in_err-land.ensures.err)

pub invariant_of-self-in-There : goal.invariant_of-self-in-There
invariant_of-self-in-There c =
    let p = c.args.place in
    let cells = c.args.cells.now in
    let es = all_of c.self.inside.runs in
    let fs = all_of c.land.new.runs in
    let h = subst (λ l. Lands p cells l es fs) c.in-There.is c.in_ok-land.ensures.ok in
    (c.in_ok-land.ensures.laid, c.self.invariant.1 ∙ sym (length_changed (at (place_cmp p)) (HasTaken cells) es fs h.1))

pub returns-in-There-clause-ok : goal.returns-in-There-clause-ok
returns-in-There-clause-ok c =
    let p = c.args.place in
    let cells = c.args.cells.now in
    let es = all_of c.self.inside.runs in
    let fs = all_of c.land.new.runs in
    let h = subst (λ l. Lands p cells l es fs) c.in-There.is c.in_ok-land.ensures.ok in
    subst (λ s. HasCome p cells s.entries fs) c.self.view_is
    (come_there p cells es fs (subst (λ s. IsUp s.entries) (sym c.self.view_is) c.requires.up) h.0 h.1)

pub invariant_of-self-in-Came : goal.invariant_of-self-in-Came
invariant_of-self-in-Came c =
    let p = c.args.place in
    let cells = c.args.cells.now in
    let es = all_of c.self.inside.runs in
    let fs = all_of c.land.new.runs in
    let h = subst (λ l. Lands p cells l es fs) c.in-Came.is c.in_ok-land.ensures.ok in (
      c.in_ok-land.ensures.laid,
      ap (λ n. n + 1) c.self.invariant.1 ∙ sym (ap length h.2 ∙ length_inserted place_cmp p (content (Some cells) h.1) es h.0),
    )

pub returns-in-Came-clause-ok : goal.returns-in-Came-clause-ok
returns-in-Came-clause-ok c =
    let p = c.args.place in
    let cells = c.args.cells.now in
    let es = all_of c.self.inside.runs in
    let fs = all_of c.land.new.runs in
    let h = subst (λ l. Lands p cells l es fs) c.in-Came.is c.in_ok-land.ensures.ok in
    subst (λ s. HasCome p cells s.entries fs) c.self.view_is (come_new p cells es fs (content (Some cells) h.1) refl h.0 h.2)

pub invariant_of-self-in_err-slot-in-Back : goal.invariant_of-self-in_err-slot-in-Back
invariant_of-self-in_err-slot-in-Back c =
    let es = all_of c.self.inside.runs in
    let fs = all_of c.land.new.runs in
    let h = subst (λ l. Lands c.args.place c.args.cells.now l es fs) c.in-Back.is c.in_ok-land.ensures.ok in
    (c.in_ok-land.ensures.laid, c.self.invariant.1 ∙ sym (ap length h.2))

pub returns-in_err-slot-in-Back-clause-err : goal.returns-in_err-slot-in-Back-clause-err
returns-in_err-slot-in-Back-clause-err c =
    let p = c.args.place in
    let cells = c.args.cells.now in
    let es = all_of c.self.inside.runs in
    let fs = all_of c.land.new.runs in
    let h = subst (λ l. Lands p cells l es fs) c.in-Back.is c.in_ok-land.ensures.ok in
    on_err c.from_residual-in_err-slot-in-Back.result
    (subst (λ s. Alters p (HasRefused cells) s.entries fs) c.self.view_is (refused_none p cells es fs h.1 h.2))

pub invariant_of-self-in-Back : goal.invariant_of-self-in-Back
invariant_of-self-in-Back c =
    let es = all_of c.self.inside.runs in
    let fs = all_of c.land.new.runs in
    let h = subst (λ l. Lands c.args.place c.args.cells.now l es fs) c.in-Back.is c.in_ok-land.ensures.ok in
    (c.in_ok-land.ensures.laid, c.self.invariant.1 ∙ sym (ap length h.2))

pub insert-requires : goal.insert-requires
insert-requires c =
    let p = c.args.place in
    let es = all_of c.self.inside.runs in
    let fs = all_of c.land.new.runs in
    let h = subst (λ l. Lands p c.args.cells.now l es fs) c.in-Back.is c.in_ok-land.ensures.ok in
    record { absent = ap (λ q. entry_at q fs) h.0 ∙ ap (entry_at p) h.2 ∙ h.1 }

pub returns-in_ok-slot-in-Back-clause-ok : goal.returns-in_ok-slot-in-Back-clause-ok
returns-in_ok-slot-in-Back-clause-ok c =
    let p = c.args.place in
    let cells = c.args.cells.now in
    let es = all_of c.self.inside.runs in
    let fs = all_of c.land.new.runs in
    let slot = c.in_ok-slot-in-Back.slot in
    let h = subst (λ l. Lands p cells l es fs) c.in-Back.is c.in_ok-land.ensures.ok in
    on_ok c.insert.result (λ e. subst (λ s. HasCome p cells s.entries c.insert.new.self.entries) c.self.view_is
    (come_new p cells es c.insert.new.self.entries slot c.in_ok-slot-in-Back.ensures h.1
    (e ∙ ap (λ q. insert_entry place_cmp fs q slot) h.0 ∙ ap (λ l. insert_entry place_cmp l p slot) h.2))) c.insert.ensures.entries

pub returns-in_ok-slot-in-Back-clause-err : goal.returns-in_ok-slot-in-Back-clause-err
returns-in_ok-slot-in-Back-clause-err c =
    let p = c.args.place in
    let cells = c.args.cells.now in
    let es = all_of c.self.inside.runs in
    let fs = all_of c.land.new.runs in
    let h = subst (λ l. Lands p cells l es fs) c.in-Back.is c.in_ok-land.ensures.ok in
    on_err_so c.insert.result (λ e. subst (λ s. Alters p (HasRefused cells) s.entries c.insert.new.self.entries) c.self.view_is
    (refused_none p cells es c.insert.new.self.entries h.1 (e ∙ h.2))) c.insert.ensures.err
