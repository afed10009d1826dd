use Rattle.std.proofs.Common.{◌≡◌, ◌≢◌, Some, None, sym, ap, subst, ◌∙◌, rules}
use Rattle.std.proofs.lemmas.Option.{same_Some}
use Rattle.acc_replica.specs.declared.errors.ReplicaError.TheVariants.{Memory}
use Rattle.acc_replica.specs.Replicas.{Replicated}
use Rattle.acc_replica.proofs.Next.{refused_again, refused_end, done_tells, refusal_lasts, did_passed, did_none, did_lack, did_refuse}
use Rattle.acc_replica.proofs.Next.{still_passed, still_none, still_lacking, still_refused, ends_none, ends_refused}
use Rattle.acc_replica.proofs.replicas.Replica.advance.Goals as goal

pub returns-in-Some-clause-told : goal.returns-in-Some-clause-told
returns-in-Some-clause-told g c =
    let lasts : c.args.self.now.refused ≢ Some Memory =
    subst (λ (r : Replicated). r.refused ≢ Some Memory) c.self.view_is c.self.invariant in
    refused_again c.args.self.now c.in-Some.error lasts (sym (ap (λ (r : Replicated). r.refused) c.self.view_is) ∙ c.in-Some.is)

pub returns-in-Some-clause-ends : goal.returns-in-Some-clause-ends
returns-in-Some-clause-ends g c = λ fed f.
    refused_end fed c.args.self.now c.in-Some.error (sym (ap (λ (r : Replicated). r.refused) c.self.view_is) ∙ c.in-Some.is) f

pub returns-in-Passed-clause-told : goal.returns-in-Passed-clause-told
returns-in-Passed-clause-told g c =
    let inside = c.self.inside in
    let old : Replicated = record { design = inside.state.design; world = inside.state.world; stream = inside.stream; refused = inside.refused } in
    did_passed old c.args.self.now c.do_next.new.state c.self.view_is c.skip.new.self c.in-Passed.told c.skip.ensures.skipped
    c.in-Passed.ensures

pub returns-in-Passed-clause-follows : goal.returns-in-Passed-clause-follows
returns-in-Passed-clause-follows g c = λ fed f.
    let inside = c.self.inside in
    let old : Replicated = record { design = inside.state.design; world = inside.state.world; stream = inside.stream; refused = inside.refused } in
    let fresh : inside.refused ≡ None = search rules in
    still_passed old c.args.self.now c.do_next.new.state c.self.view_is fed f c.skip.new.self c.in-Passed.told fresh
    c.skip.ensures.skipped (c.skip.ensures.follows fed) c.in-Passed.ensures

pub returns-in-Passed-clause-ends : goal.returns-in-Passed-clause-ends
returns-in-Passed-clause-ends g c = λ fed f.
    done_tells c.self.inside.state c.do_next.new.state c.self.inside.stream c.args.self.now.design fed c.args.self.now.world c.in-Passed.told
    c.in-Passed.ensures

pub returns-in-NotYet-clause-told : goal.returns-in-NotYet-clause-told
returns-in-NotYet-clause-told g c =
    let inside = c.self.inside in
    let old : Replicated = record { design = inside.state.design; world = inside.state.world; stream = inside.stream; refused = inside.refused } in
    did_none old c.args.self.now c.do_next.new.state c.self.view_is c.in-NotYet.ensures

pub returns-in-NotYet-clause-follows : goal.returns-in-NotYet-clause-follows
returns-in-NotYet-clause-follows g c = λ fed f.
    let inside = c.self.inside in
    let old : Replicated = record { design = inside.state.design; world = inside.state.world; stream = inside.stream; refused = inside.refused } in
    still_none old c.args.self.now c.do_next.new.state c.self.view_is fed f c.in-NotYet.ensures

pub returns-in-NotYet-clause-ends : goal.returns-in-NotYet-clause-ends
returns-in-NotYet-clause-ends g c = λ fed f.
    let inside = c.self.inside in
    let old : Replicated = record { design = inside.state.design; world = inside.state.world; stream = inside.stream; refused = inside.refused } in
    ends_none old c.args.self.now c.do_next.new.state c.self.view_is fed f c.in-NotYet.ensures

pub invariant_of-self-in-Refused : goal.invariant_of-self-in-Refused
invariant_of-self-in-Refused g c = λ is.
    refusal_lasts c.self.inside.state c.do_next.new.state c.self.inside.stream c.in-Refused.error c.in-Refused.ensures
    (same_Some c.in-Refused.error Memory is)

pub returns-in-Refused-clause-told : goal.returns-in-Refused-clause-told
returns-in-Refused-clause-told g c =
    let inside = c.self.inside in
    let old : Replicated = record { design = inside.state.design; world = inside.state.world; stream = inside.stream; refused = inside.refused } in
    did_refuse old c.args.self.now c.do_next.new.state c.self.view_is c.in-Refused.error c.in-Refused.ensures

pub returns-in-Refused-clause-follows : goal.returns-in-Refused-clause-follows
returns-in-Refused-clause-follows g c = λ fed f.
    let inside = c.self.inside in
    let old : Replicated = record { design = inside.state.design; world = inside.state.world; stream = inside.stream; refused = inside.refused } in
    still_refused old c.args.self.now c.do_next.new.state c.self.view_is fed f c.in-Refused.error c.in-Refused.ensures

pub returns-in-Refused-clause-ends : goal.returns-in-Refused-clause-ends
returns-in-Refused-clause-ends g c = λ fed f.
    let inside = c.self.inside in
    let old : Replicated = record { design = inside.state.design; world = inside.state.world; stream = inside.stream; refused = inside.refused } in
    ends_refused old c.args.self.now c.do_next.new.state c.self.view_is fed f c.in-Refused.error c.in-Refused.ensures

pub returns-in-Lacks-clause-told : goal.returns-in-Lacks-clause-told
returns-in-Lacks-clause-told g c =
    let inside = c.self.inside in
    let old : Replicated = record { design = inside.state.design; world = inside.state.world; stream = inside.stream; refused = inside.refused } in
    did_lack old c.args.self.now c.do_next.new.state c.self.view_is c.in-Lacks.ensures

pub returns-in-Lacks-clause-follows : goal.returns-in-Lacks-clause-follows
returns-in-Lacks-clause-follows g c = λ fed f.
    let inside = c.self.inside in
    let old : Replicated = record { design = inside.state.design; world = inside.state.world; stream = inside.stream; refused = inside.refused } in
    still_lacking old c.args.self.now c.do_next.new.state c.self.view_is fed f c.in-Lacks.ensures
