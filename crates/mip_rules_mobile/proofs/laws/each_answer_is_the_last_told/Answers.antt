use Rattle.mip_rules_mobile.proofs.Told.{last-told, standing-told, registered-told, latest-told, agent-told, owes-told, next-told, found-told, tried-told, chosen-told}
use Rattle.mip_rules_mobile.proofs.laws.each_answer_is_the_last_told.Goals as goal

pub returns-clause-last : goal.returns-clause-last
returns-clause-last c = λ home declared numbers secrets past. last-told home declared numbers secrets past

pub returns-clause-standing : goal.returns-clause-standing
returns-clause-standing c = λ home declared numbers secrets past. standing-told home declared numbers secrets past

pub returns-clause-registered : goal.returns-clause-registered
returns-clause-registered c = λ home declared numbers secrets past. registered-told home declared numbers secrets past

pub returns-clause-latest : goal.returns-clause-latest
returns-clause-latest c = λ home declared numbers secrets past. latest-told home declared numbers secrets past

pub returns-clause-agent : goal.returns-clause-agent
returns-clause-agent c = λ home declared numbers secrets past. agent-told home declared numbers secrets past

pub returns-clause-owes : goal.returns-clause-owes
returns-clause-owes c = λ home declared numbers secrets past. owes-told home declared numbers secrets past

pub returns-clause-found : goal.returns-clause-found
returns-clause-found c = λ home declared numbers secrets past. found-told home declared numbers secrets past

pub returns-clause-tried : goal.returns-clause-tried
returns-clause-tried c = λ home declared numbers secrets past. tried-told home declared numbers secrets past

pub returns-clause-chosen : goal.returns-clause-chosen
returns-clause-chosen c = λ home declared numbers secrets past. chosen-told home declared numbers secrets past

pub returns-clause-next : goal.returns-clause-next
returns-clause-next c = λ home declared numbers secrets past agent. next-told home declared numbers secrets past agent
