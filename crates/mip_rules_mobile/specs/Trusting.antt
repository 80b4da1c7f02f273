-- Whose word a mobile takes, and how it came: its agent's acknowledgements, a peer's acknowledgements, and away a Home Test.
-- RFC 6275 sections 5.1, 5.2, 11.6.2 and 11.7.3
use Rattle.std.specs.Prelude.{◌≡◌, ◌≢◌, ℕ, ◌+◌, ◌*◌, ◌<◌, List, Bool, true, false, ◌⊎◌, Option, Some, Ok, is_some, unwrap_or}
use Rattle.mip_words.specs.declared.address.Address.{Address}
use Rattle.mip_words.specs.declared.moment.Moment.{Moment}
use Rattle.mip_words.specs.declared.shield.Shield.{Shield}
use Rattle.mip_ipv6.specs.Packet.{Packet, source_of}
use Rattle.mip_ipv6.specs.Reading.{packet_of}
use Rattle.mip_mobhdr.specs.OptionValues.{Values}
use Rattle.mip_mobhdr.specs.Said.Said.{Acknowledgement}
use Rattle.mip_reception.specs.Says.{message_in}
use Rattle.mip_tokens.specs.Token.{is_authentic}
use Rattle.mip_bulist.specs.declared.any.Any.TheVariants.{Pending}
use Rattle.mip_bulist.specs.declared.state.Pending as pending
use Rattle.mip_bulist.specs.declared.trial.Trial.{Trial}
use Rattle.mip_rules_mobile.specs.declared.attachment.Attachment.TheVariants.{Away}
use Rattle.mip_rules_mobile.specs.declared.home_update.HomeUpdate.{HomeUpdate}
use Rattle.mip_rules_mobile.specs.Calls.{Call, Take}
use Rattle.mip_rules_mobile.specs.Coming.{IsOfTake}
use Rattle.mip_rules_mobile.specs.Trials.{last_made, binds_to}
use Rattle.mip_rules_mobile.specs.Known.{Known}
use Rattle.mip_rules_mobile.specs.HomeQuestions.{home_of, agent_of}
use Rattle.mip_rules_mobile.specs.RowQuestions.{row_of, trial_of}

-- an acknowledgement of the last home registration or deregistration: handed over under a shield and in no tunnel, from the
-- agent to which that was sent, with its sequence, or with the status that the sequence is out of the window
pub record IsAnswered (c : Call) (latest : Option HomeUpdate) (update : HomeUpdate) (status sequence lifetime : ℕ) : Type 0 where
  pub number : ℕ
  pub shield : Shield
  pub bytes : List ℕ
  pub call : c ≡ Take number (Some shield) bytes
  pub packet : Packet
  pub read : packet_of bytes ≡ Ok packet
  pub key : Bool
  pub options : Values
  pub says : message_in packet ≡ Some (Acknowledgement status key sequence lifetime options)
  pub last : latest ≡ Some update
  pub from : (source_of packet.head).0 ≡ update.agent.0
  pub answers : (sequence ≡ update.sequence) ⊎ (status ≡ 135)

-- one that accepts a registration, or a deregistration
pub record IsAgreed (c : Call) (latest : Option HomeUpdate) (deletes : Bool) (agent : Address) : Type 0 where
  pub update : HomeUpdate
  pub status : ℕ
  pub sequence : ℕ
  pub lifetime : ℕ
  pub answered : IsAnswered c latest update status sequence lifetime
  pub accepts : status < 128
  pub kind : update.deletes ≡ deletes
  pub to : update.agent ≡ agent

-- one that registers: the end lies 4 s for each unit granted behind the sending, and the renewal three quarters of that
pub record IsRegistered (c : Call) (latest : Option HomeUpdate) (agent : Address) (end renew : Moment) : Type 0 where
  pub agreed : IsAgreed c latest false agent
  pub some : agreed.lifetime ≢ 0
  pub ends : end.0 ≡ agreed.update.at.0 + 4000 * agreed.lifetime
  pub renews : renew.0 ≡ agreed.update.at.0 + 3000 * agreed.lifetime

-- one that ends a registration
abbrev pub IsUnregistered : Call → Option HomeUpdate → Address → Type 0
IsUnregistered c latest agent = IsAgreed c latest true agent

-- one that refuses
abbrev pub IsDeclined : Call → Option HomeUpdate → ℕ → Type 0
IsDeclined c latest status = (update : HomeUpdate) × (sequence : ℕ) × (lifetime : ℕ) × IsAnswered c latest update status sequence lifetime

-- one with status 135, from an agent, with a sequence to go on from
abbrev pub IsBehind : Call → Option HomeUpdate → Address → (sequence : ℕ) → Type 0
IsBehind c latest agent sequence = (update : HomeUpdate) × (lifetime : ℕ) × IsAnswered c latest update 135 sequence lifetime × (update.agent ≡ agent)

-- an acknowledgement that accepts the last update of a row's trial: from the row's peer, with the sequence of that update, and
-- with an authenticator under its key, between the address that it binds, where it deletes the home address, and the peer
pub record IsAcknowledged (c : Call) (k : Known) (now row sequence granted : ℕ) : Type 0 where
  pub number : ℕ
  pub tunnelled : Bool
  pub shield : Option Shield
  pub packet : Packet
  pub handed : IsOfTake c k now number tunnelled shield packet
  pub status : ℕ
  pub key : Bool
  pub options : Values
  pub says : message_in packet ≡ Some (Acknowledgement status key sequence granted options)
  pub accepts : status < 128
  pub signed : is_some options.authorization ≡ true
  pub placed : row_of k (source_of packet.head) ≡ Some row
  pub trial : Trial pending.Pending
  pub pending : trial_of k row ≡ Some (Pending trial)
  pub authentic : is_authentic (last_made trial).kbm.0 (unwrap_or (binds_to trial) (home_of k)) trial.peer packet.body ≡ true
  pub numbered : sequence ≡ (last_made trial).sequence

-- what was handed over came under a shield, in a tunnel from the mobile's agent
pub record IsByTunnel (c : Call) (now : ℕ) (k : Known) : Type 0 where
  pub number : ℕ
  pub shield : Shield
  pub bytes : List ℕ
  pub call : c ≡ Take number (Some shield) bytes
  pub outer : Packet
  pub read : packet_of bytes ≡ Ok outer
  pub agent : Address
  pub of : agent_of k now ≡ Some agent
  pub from : outer.head.source.0 ≡ agent.0
  pub packet : Packet
  pub inside : packet_of outer.body ≡ Ok packet

-- so it did where the mobile is away
abbrev pub ComesByTunnel : Call → ℕ → Known → Type 0
ComesByTunnel c now k = (careof : Address) → k.standing ≡ Away careof → IsByTunnel c now k
