-- Turning by what reading answers: a refusal stands with its place; a file that is held gives a good network (roundtrips
-- NetworkTrips), so that writing it is refused for room alone. Assumes nothing.
use Prim.Native.Nat.{ℕ}
use mathlib.Core.Path.{◌≡◌, refl, sym, ◌∙◌, ap}
use mathlib.Core.Bool.{Bool, true, false}
use mathlib.Core.List.{List}
use lib.Dec.{leb}
use lib.ListN.{length}
use Rattle.std.specs.Prelude.{Err}
use Rattle.std.specs.Prelude.{if◌then◌else◌}
use Rattle.base.specs.RefusalNumbers.{number_of}
use Rattle.base.specs.declared.refusal.OutputError.{OutputError}
use Rattle.network.specs.declared.Network.{Network}
use Rattle.network.specs.Networks.{network_refusal}
use Rattle.timetable.specs.declared.NetworkForm.{NetworkForm}
use Rattle.timetable.specs.Formats.{accepted, refused}
use Rattle.timetable.specs.NetworkFile.{read_network_as}
use Rattle.timetable.specs.Outputs as outputs
use Rattle.timetable.specs.Outputs.{Reply, written, refused_at, needed, output}
use Rattle.timetable.specs.Turning.{turned, turned_reply, turned_after, turn_reply, turn_after}
use Rattle.timetable.proofs.ReplyLaws.{clash}
use Rattle.roundtrips.specs.RoundTrips.{Bytes}
use Rattle.roundtrips.proofs.NetworkTrips.{read_as}
use Rattle.network_writing.specs.Writing.{write_network, network_written}
use Rattle.turning.specs.Answers as answers
use Rattle.turning.specs.Answers.{turn_error}

module _ (form : NetworkForm) (file out : List ℕ) where
  pub turn_refused : (k p : ℕ) → refused k p ≡ read_network_as form file → (refused_at k p ≡ turn_reply form file out) × (out ≡ turn_after form file out)
  unfolding turn_reply turn_after turned_reply turned_after
  turn_refused k p e = rw (← e) (refl, refl)

  module _ (n : Network) (next : ℕ) (bytes : Bytes file) (e : accepted n next ≡ read_network_as form file) where
    good : network_refusal n ≡ 0
    good = (read_as form file n next bytes (sym e)).good

    pub turn_held : (write_network n out ≡ turn_reply form file out) × (network_written n out ≡ turn_after form file out)
    unfolding turn_reply turn_after turned_reply turned_after turned write_network network_written
    turn_held = rw (← e, good) (refl, refl)

    -- what is held is not refused by writing
    never_refused : (k : ℕ) → ¬ (outputs.refused k ≡ write_network n out)
    unfolding turned write_network output
    never_refused k q = go (leb (length (turned n)) (length out)) (q ∙ rw good)
      where
        go : (c : Bool) → outputs.refused k ≡ (if c then written (length (turned n)) else needed (length (turned n))) → ⊥
        go true w = clash (length (turned n)) (ap (λ (x : Reply). x.size) w)
        go false w = clash (length (turned n)) (ap (λ (x : Reply). x.size) w)

    -- so it is told as writing tells it
    pub told_alike : (o : OutputError) → outputs.reply_of (Err o) ≡ write_network n out → answers.reply (Err (turn_error o)) ≡ write_network n out
    unfolding outputs.reply_of answers.reply
    told_alike (OutputError.Refused r) q = absurd (never_refused (number_of r) q)
    told_alike (OutputError.TooShort k) q = q
