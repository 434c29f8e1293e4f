-- What was read of content, stated by the layout.
use Rattle.std.proofs.Common.{◌≡◌, ℕ, List, Option, Some, None, Result, Ok, Err, refl, sym, ap, ◌∙◌, inl, inr}
use Rattle.lw_types.specs.Hex.{IsBytes}
use Rattle.lw_types.specs.declared.refusal.Refusal.{Refusal}
use Rattle.lw_types.specs.declared.refusal.Refusal.TheVariants.{BadMessage}
use Rattle.link_messages.specs.declared.message.Peer.{Peer}
use Rattle.link_messages.specs.declared.message.Message.{Message}
use Rattle.link_messages.specs.MessageReading.{Reads, message_at}
use Rattle.link_messages.specs.Steps.{Tells}
use Rattle.link_messages.proofs.Messages.{message_takes}
use Rattle.link_messages.proofs.OneSaying.{unsaid}

abbrev ok_message : Message → Result Message Refusal
ok_message m = Ok m

abbrev err_message : Refusal → Result Message Refusal
err_message e = Err e

err_same : (a b : Refusal) → err_message a ≡ err_message b → a ≡ b
err_same a b e = cc

tells_of : (peer : Option Peer) (content : List ℕ) (read : Option Message) (result : Result Message Refusal) → IsBytes content → message_at peer content ≡ read
    → Reads result read → Tells peer content result
tells_of peer content None (Ok m) fits e h = absurd cc
tells_of peer content None (Err refusal) fits e h = inr (err_same refusal BadMessage h, unsaid peer content e)
tells_of peer content (Some m) (Ok n) fits e h = message_takes peer content n fits (e ∙ ap (λ (q : Message). Some q) (sym h))
tells_of peer content (Some m) (Err refusal) fits e h = inl (h, (m, message_takes peer content m fits e))

pub tells : (peer : Option Peer) (content : List ℕ) (result : Result Message Refusal) → IsBytes content → Reads result (message_at peer content) → Tells peer content result
tells peer content result fits h = tells_of peer content (message_at peer content) result fits refl h
