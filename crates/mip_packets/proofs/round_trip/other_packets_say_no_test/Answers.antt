use Rattle.mip_packets.proofs.WrittenSayings.{message_says_no_test, data_says_no_test, problem_says_no_test}
use Rattle.mip_packets.proofs.round_trip.other_packets_say_no_test.Goals as goal

pub returns-clause-message : goal.returns-clause-message
returns-clause-message c = λ head m proto none. message_says_no_test head m proto none

pub returns-clause-data : goal.returns-clause-data
returns-clause-data c = λ head body plain other inner. data_says_no_test head body plain other inner

pub returns-clause-problem : goal.returns-clause-problem
returns-clause-problem c = λ source destination pointer packet. problem_says_no_test source destination pointer packet
