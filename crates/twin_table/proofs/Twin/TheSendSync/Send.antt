use Rattle.std.proofs.Common.{[]}
use denote.RattleType.{RattleType}
use denote.Param.Send.{IsSend}
use Rattle.atomic_table.specs.declared.shared.TableRule.{Ghosts}
use Rattle.atomic_table.proofs.Sent.{shares_keyless}
use Rattle.twin_table.specs.contracts.Twin.{the_row}

pub send : (S V K P : RattleType) (g : Ghosts P.Denot S.Denot V.Denot K.Denot) → IsSend S → IsSend (the_row S V K P g)
send S V K P g s = record { owned = λ d vs. ((λ vss. (tt, (tt, (tt, ((λ uss. (tt, tt)), tt))))), shares_keyless S s V.coded.code d.table_id (g.holds d.key) d.words d.slots []); leaving = λ k f vs. tt }
