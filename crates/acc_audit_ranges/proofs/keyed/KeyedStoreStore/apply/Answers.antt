use Rattle.std.proofs.Common.{All, sym, ◌∙◌, subst}
use Rattle.std.proofs.lemmas.Bool.{false≢true}
use Rattle.acc_audit_ranges.specs.Keyed.{Covers, Stands, StaysCounted}
use Rattle.acc_audit_ranges.proofs.Giving.{covers_more, covers_written, stands_all, settled}
use Rattle.acc_audit_ranges.proofs.keyed.KeyedStoreStore.apply.Goals as goal

pub invariant_of-self : goal.invariant_of-self
invariant_of-self g c = (
  covers_more c.self.inside.noted.places c.note_all.new.noted.places (g.S.Store.rows c.self.inside.rows) c.in_err-note_all.ensures.grows
      c.self.invariant.0,
  λ h. absurd (false≢true h),
)

-- nothing was written, and what was noted stays
pub invariant_of-self-in_err-apply : goal.invariant_of-self-in_err-apply
invariant_of-self-in_err-apply g c = (
  subst (Covers c.note_all.new.noted.places) (sym c.in_err-apply.ensures.err)
      (covers_more c.self.inside.noted.places c.note_all.new.noted.places (g.S.Store.rows c.self.inside.rows) c.in_ok-note_all.ensures.grows
      c.self.invariant.0),
  λ h. absurd (false≢true h),
)

pub invariant_of-self-2 : goal.invariant_of-self-2
invariant_of-self-2 g c =
    let db = g.S.Store.rows c.self.inside.rows in
    let new = g.S.Store.rows c.apply.new.self in
    let old = c.self.inside.noted in
    let mid = c.note_all.new.noted in
    let last = c.forget_all-settled.new.noted in
    let ws = c.args.writes.now in
    let is = c.in_ok-apply.ensures.ok in (
      c.forget_all-settled.ensures.covers
          (covers_written old.places mid.places ws db new c.in_ok-note_all.ensures.grows c.in_ok-note_all.ensures.noted c.self.invariant.0 is),
      λ h.
          let known = settled (All (Stands last.places new) c.deref.result.now) (StaysCounted mid last) c.self.inside.whole
          c.forget_all-settled.result c.forget_all-settled.ensures.stands c.forget_all-settled.ensures.counted (sym c.still-self-inside.ensures ∙ h) in
          let exact = c.self.invariant.1 known.0 in
          record {
            stand = stands_all ws db new old.places mid.places last.places exact.stand c.in_ok-note_all.ensures.only
                c.forget_all-settled.ensures.within
                (subst (All (Stands last.places new)) (c.deref.ensures.value ∙ c.in_ok-places.ensures) known.1) is;
            counted = known.2 (c.in_ok-note_all.ensures.counted exact.counted);
          },
    )
