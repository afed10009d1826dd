use Rattle.std.proofs.Common.{◌∙◌, subst}
use Rattle.std.proofs.lemmas.Result.{IfOk-weaker}
use Rattle.acc_base.specs.declared.designs.Design.{Design}
use Rattle.acc_replica.specs.Ends.{Ends}
use Rattle.acc_commands_inputs.specs.Answers.{said_alone}
use Rattle.acc_commands_files.specs.Following.{SaysEnd, IsReplayed}
use Rattle.acc_commands_files.proofs.follows.follow_accepted.Goals as goal

pub follow_pieces-requires : goal.follow_pieces-requires
follow_pieces-requires c = c.in_ok-replica.ensures.follows

pub returns : goal.returns
returns c =
    let fed = c.follow_pieces.ensures.design ∙ c.in_ok-replica.ensures.design in
    let after = c.do_whole.ensures.design ∙ fed in
    let here = c.do_whole.new.replica.world in
    let refused = c.in_ok-refused.refused in
    let ends = c.in_ok-refused.ensures.ends c.args.copy.now c.in_ok-follow_pieces.ensures.follows in
    IfOk-weaker c.say_end.result _ _ (λ a says. record {
      refused = refused;
      here = here;
      ends = subst (λ (d : Design). Ends d c.args.copy.now refused here) fed ends;
      replayed = subst (λ (d : Design). IsReplayed d here) after c.say_end.ensures.replayed;
      says = subst (λ (d : Design). SaysEnd d here refused (said_alone a)) c.design.ensures.design says;
    }) c.say_end.ensures.says
