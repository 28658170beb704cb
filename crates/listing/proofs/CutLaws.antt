-- The first 28,000 bytes of any input decide its listing: "later bytes can't alter its answer" (document 01, "The listing").
-- Assumes nothing.
use mathlib.Core.List.{List}
use mathlib.Core.Logic.{◌↔◌}
use Prim.Native.Nat.{ℕ}
use lib.ListN.{take}
use Rattle.table.specs.Outcomes.{Outcome}
use Rattle.taskformat.specs.Lengths.{program_room}
use Rattle.taskformat.specs.Reading.{ReadsFile}
use Rattle.table.specs.declared.TaskReply.{TaskReply}
use Rattle.taskformat.proofs.FilesAreTasks.{cut_decides}
use Rattle.listing.specs.Listing.{Lists, ListsInto}

-- What is read alike is listed alike.
module _ {s other : List ℕ} (same : (r : TaskReply) → ReadsFile s r → ReadsFile other r) where
  alike : {text : List ℕ} → Lists s text → Lists other text
  alike a = record {
    read = a.read;
    reads = same a.read a.reads;
    solved = a.solved;
    solves = a.solves;
    text_is = a.text_is;
  }

  alike_into : {room : List ℕ} {o : Outcome} → ListsInto s room o → ListsInto other room o
  alike_into a = record { text = a.text; lists = alike a.lists; outcome = a.outcome }

pub text_cut : (s text : List ℕ) → Lists (take program_room s) text ↔ Lists s text
text_cut s text = (alike (λ r. (cut_decides s r).0), alike (λ r. (cut_decides s r).1))

pub listing_cut : (s room : List ℕ) (o : Outcome) → ListsInto (take program_room s) room o ↔ ListsInto s room o
listing_cut s room o = (alike_into (λ r. (cut_decides s r).0), alike_into (λ r. (cut_decides s r).1))
