use Rattle.std.proofs.Common.{◌+◌, subst, sym}
use Rattle.job_queue.specs.declared.queue.Lanes.{Lanes}
use Rattle.job_queue.proofs.Handed.{AreHanded, handed_one, handed_other}
use Rattle.job_queue.proofs.queue.Lanes.hand_out.Goals as goal
use Rattle.job_queue.proofs.queue.Lanes.hand_out.Goals.{then-not-self+in_ok-hand, else-not-self+in_ok-hand-2}

-- to whichever lane the job went
pub loop-number-preserved : goal.loop-number-preserved
loop-number-preserved g c =
    let is_handed = λ (l : Lanes). AreHanded c.args.r.now c.args.self.now l (c.loop-number.number + 1) in
    elim c.if-not-self.branch [
      | then-not-self+in_ok-hand w ↦ let h = w.in_ok-hand.ensures in subst is_handed (sym w.self-is) (handed_one _ _ c.loop-number.self c.loop-number.number w.hand.new.self c.loop-number.invariant h.lane h.ring h.handed)
      | else-not-self+in_ok-hand-2 w ↦ let h = w.in_ok-hand-2.ensures in subst is_handed (sym w.self-is) (handed_other _ _ c.loop-number.self c.loop-number.number w.hand-else-not-self.new.self c.loop-number.invariant h.lane h.ring h.handed)
    ]
