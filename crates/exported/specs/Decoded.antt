-- What C reads out of a result: the access that it names, or the answer with its count. `decodes_encoded` of proofs/ says that this
-- is what was encoded.
-- Assumes nothing.
use Rattle.std.specs.Prelude.{ℕ, ◌/◌, ◌%◌, ◌≡◌, cond, ◌≢◌, eqb, ltb}
use Rattle.word.specs.Word.{port_at, queue_at}
use Rattle.calls.specs.declared.types.Place.{Place}
use Rattle.calls.specs.declared.types.Place.TheVariants.{Word, Ready, Head}
use Rattle.calls.specs.declared.types.Access.{Access}
use Rattle.calls.specs.declared.types.Access.TheVariants.{Read, Store, Or, And, Swap, Cas}
use Rattle.calls.specs.declared.types.Answer.{Answer}
use Rattle.calls.specs.declared.types.Answer.TheVariants.{Done, LinkBits, UpcallWanted, LinkAbandoned, BadPort, NotBound, AlreadyBound, OutsideArray, StillLinked, BadPriority, AlreadyGiven, NotGiven, BadFrame, BadOffset, TooManyPages, NoEntry, CallUnderWay, NoCall, BadVcpu, BadIndex, HandedOver, NothingReady, Taken, CallUnmask}
use Rattle.calls.specs.declared.types.Next.{Next}
use Rattle.calls.specs.declared.types.Next.TheVariants as next
use Rattle.evtchn_fifo.specs.Encoded.{EncodedNext, encoded_answer, encoded_access}

-- an answer by its number and the value that it carries: 0 with link bits is init_control's; 16 stands for any other number too
unfoldable pub decoded_answer : ℕ → ℕ → Answer
decoded_answer number value =
    cond (eqb number 0) (cond (eqb value 0) Done (LinkBits value))
    (cond (eqb number 1) UpcallWanted
    (cond (eqb number 2) LinkAbandoned
    (cond (eqb number 3) BadPort
    (cond (eqb number 4) NotBound
    (cond (eqb number 5) AlreadyBound
    (cond (eqb number 6) OutsideArray
    (cond (eqb number 7) StillLinked
    (cond (eqb number 8) BadPriority
    (cond (eqb number 9) AlreadyGiven
    (cond (eqb number 10) NotGiven
    (cond (eqb number 11) BadFrame
    (cond (eqb number 12) BadOffset
    (cond (eqb number 13) TooManyPages
    (cond (eqb number 14) NoEntry
    (cond (eqb number 15) CallUnderWay
    (cond (eqb number 17) BadVcpu
    (cond (eqb number 18) BadIndex
    (cond (eqb number 19) (HandedOver (port_at value))
    (cond (eqb number 20) NothingReady
    (cond (eqb number 21) (Taken (port_at value))
    (cond (eqb number 35) CallUnmask
    NoCall)))))))))))))))))))))

-- an access: its code is 256 + 16 times the kind + the place
unfoldable pub decoded_place : ℕ → ℕ → Place
decoded_place place index =
    cond (eqb place 0) (Word (port_at index))
    (cond (eqb place 1) Ready
    (Head (queue_at index)))

unfoldable pub decoded_kind : ℕ → Place → ℕ → ℕ → Access
decoded_kind kind p value old =
    cond (eqb kind 16) (Read p)
    (cond (eqb kind 17) (Store p value)
    (cond (eqb kind 18) (Or p value)
    (cond (eqb kind 19) (And p value)
    (cond (eqb kind 20) (Swap p value)
    (Cas p old value)))))

unfoldable pub decoded_access : EncodedNext → Access
decoded_access x = decoded_kind (x.code / 16) (decoded_place (x.code % 16) x.index) x.value x.old

unfoldable pub decoded_next : EncodedNext → Next
decoded_next x =
    cond (ltb x.code 0x100) (next.Answer (decoded_answer x.code x.index) x.value)
    (next.Access (decoded_access x))

-- decode of encode is the identity; link bits of 0, which no call gives, would read as a plain 0
pub record DecodesEncoded : Type 0 where
  pub access : (a : Access) → decoded_next (encoded_access a) ≡ next.Access a
  pub answer : (a : Answer) (count : ℕ) → a ≢ LinkBits 0 → decoded_next (encoded_answer a count) ≡ next.Answer a count
  -- so no two accesses share a result
  pub apart : (a b : Access) → encoded_access a ≡ encoded_access b → a ≡ b
