use Rattle.std.proofs.Common.{◌≡◌, ◌≤◌, ◌<◌, ◌+◌, ◌^◌, ◌++◌, List, [], ◌∷◌, length, take, drop, sym, ◌∙◌, ap, subst, arith, length-drop}
use Rattle.std.specs.Int.{w32, to_be_bytes}
use Rattle.std.proofs.lemmas.List.{take-append-le}
use Rattle.acc_base.specs.declared.machines.Event.{Event}
use Rattle.acc_wal.specs.Spellings.{body}
use Rattle.acc_wal.specs.Items.{seal_bytes}
use Rattle.acc_wal.specs.Wals.{Journal, IsRecord, IsKept}
use Rattle.acc_wal.specs.declared.items.Seal.{Seal}
use Rattle.acc_wal.proofs.Places.{seal_at}
use Rattle.acc_wal.proofs.Keeping.{record_sealed}
use Rattle.acc_wal.proofs.wal.Wal.push_seal.Goals.{in-Ok, in-Err}
use Rattle.acc_wal.proofs.wal.Wal.push_seal.Goals as goal

pub invariant_of-self : goal.invariant_of-self
invariant_of-self g c =
    let old = c.self.inside in
    let told = g.D.Disk.told old.disk in
    let within : old.sealed ≤ length old.seals.items = omega (arith, c.self.invariant.1) in
    let tail : drop old.count old.events.items ≡ c.args.self.now.tail = ap (λ (j : Journal g.row.D.Denot). j.tail) c.self.view_is in
    let waiting : drop old.sealed old.seals.items ≡ c.args.self.now.waiting = ap (λ (j : Journal g.row.D.Denot). j.waiting) c.self.view_is in
    let two : old.version ≡ 2 = ap (λ (j : Journal g.row.D.Denot). j.version) c.self.view_is ∙ c.requires.version in
    let at : c.len-place.result ≡ old.count + length (drop old.count old.events.items) =
    omega (arith, c.len-place.ensures, length-drop old.count old.events.items, c.self.invariant.0) in
    let short : length (body (drop old.count old.events.items)) + seal_bytes (drop old.sealed old.seals.items)
    + (5 + length c.args.text.now) < 2 ^ 32 =
    omega (arith, c.requires.short, ap (λ (t : List Event). length (body t)) tail, ap (λ (t : List Seal). seal_bytes t) waiting) in
    elim c.match-put_seal.branch [
      | in-Ok w ↦
          let seals = w.in-Ok.ensures.seals in
          let staged = w.in-Ok.ensures.staged in (
            c.self.invariant.0,
            omega (arith, seals.1, c.self.invariant.1),
            staged.2,
            subst (λ s. IsRecord s old.count old.version (drop old.count old.events.items) (drop old.sealed c.put_seal.new.seals.items))
                (sym staged.0) (subst (λ (ss : List Seal). IsRecord (old.staged.items ++ (5 ∷ to_be_bytes w32 (length c.args.text.now)
                ++ c.args.text.now)) old.count old.version (drop old.count old.events.items) (drop old.sealed ss)) (sym seals.0)
                (record_sealed old.staged.items c.args.text.now old.version (drop old.count old.events.items) old.seals.items old.count
                old.sealed c.len-place.result within c.self.invariant.3 two at short)),
            subst (λ (ss : List Seal). IsKept old.spent told old.base.items old.version (take old.count old.events.items) ss old.place)
                (sym (ap (λ (l : List Seal). take old.sealed l) seals.0 ∙ take-append-le old.sealed old.seals.items
                (seal_at c.len-place.result c.args.text.now ∷ []) within)) c.self.invariant.4,
          )
      | in-Err w ↦
          let err = w.in-Err.ensures.err in (
            c.self.invariant.0,
            omega (arith, err.3, c.self.invariant.1),
            omega (arith, err.1, c.put_seal.ensures.capacity, c.self.invariant.2),
            subst (λ s. IsRecord s old.count old.version (drop old.count old.events.items) (drop old.sealed c.put_seal.new.seals.items))
                (sym err.0) (subst (λ (ss : List Seal). IsRecord old.staged.items old.count old.version (drop old.count old.events.items)
                (drop old.sealed ss)) (sym err.2) c.self.invariant.3),
            subst (λ (ss : List Seal). IsKept old.spent told old.base.items old.version (take old.count old.events.items)
                (take old.sealed ss) old.place) (sym err.2) c.self.invariant.4,
          )
    ]
