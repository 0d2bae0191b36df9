use Rattle.shm_toc.proofs.Serving.{serves_all}
use Rattle.shm_toc.proofs.room.serves_in_any_order.Goals as goal

pub returns : goal.returns
returns c = serves_all
