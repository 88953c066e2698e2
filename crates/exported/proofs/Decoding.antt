-- Decode of encode is the identity.
-- Assumes nothing.
use Prim.Native.Nat.{ℕ, ◌+◌, ◌*◌, ◌/◌, ◌%◌, ◌≤◌, ◌<◌}
use mathlib.Core.Path.{◌≡◌, refl, sym, ap, ◌∙◌}
use mathlib.Core.Bool.{false}
use mathlib.Core.Logic.{◌≢◌}
use borrow.Author.Tests.{le-ltb, ne_eqb}
use native.Mathlib.Omega.{arith}
use lib.Dec.{lit≤, ltb}
use Rattle.calls.specs.declared.types.Place.{Place}
use Rattle.calls.specs.declared.types.Place.TheVariants.{Word, Ready, Head}
use Rattle.calls.specs.declared.types.Access.{Access}
use Rattle.calls.specs.declared.types.Access.TheVariants.{Read, Store, Or, And, Swap, Cas}
use Rattle.calls.specs.declared.types.Answer.{Answer}
use Rattle.calls.specs.declared.types.Answer.TheVariants.{Done, LinkBits, UpcallWanted, LinkAbandoned, BadPort, NotBound, AlreadyBound, OutsideArray, StillLinked, BadPriority, AlreadyGiven, NotGiven, BadFrame, BadOffset, TooManyPages, NoEntry, CallUnderWay, NoCall, BadVcpu, BadIndex, HandedOver, NothingReady, Taken, CallUnmask}
use Rattle.calls.specs.declared.types.Next.TheVariants as next
use Rattle.calls.specs.Answers.{code_of}
use Rattle.calls.proofs.Cases.{same_access}
use Rattle.evtchn_fifo.specs.Encoded.{encoded_answer, encoded_place, encoded_access}
use Rattle.exported.specs.Decoded.{decoded_answer, decoded_place, decoded_kind, decoded_access, decoded_next, DecodesEncoded}

-- a kind and a place share a number
quotient : (k c : ℕ) → c < 16 → (k * 16 + c) / 16 ≡ k
quotient k c h = omega arith

rest : (k c : ℕ) → c < 16 → (k * 16 + c) % 16 ≡ c
rest k c h = omega arith

no_answer : (k c : ℕ) → 16 ≤ k → ltb (k * 16 + c) 0x100 ≡ false
no_answer k c h = le-ltb (k * 16 + c) 0x100 (omega arith)

module _ (k : ℕ) (h : 16 ≤ k) (v old : ℕ) where
  place : (p : Place) → decoded_next (encoded_place (k * 16) p v old) ≡ next.Access (decoded_kind k p v old)
  unfolding decoded_next decoded_access decoded_place encoded_place
  place (Word p) = rw (no_answer k 0 h, quotient k 0 (lit≤ tt), rest k 0 (lit≤ tt))
  place Ready = rw (no_answer k 1 h, quotient k 1 (lit≤ tt), rest k 1 (lit≤ tt))
  place (Head q) = rw (no_answer k 2 h, quotient k 2 (lit≤ tt), rest k 2 (lit≤ tt))

pub access_back : (a : Access) → decoded_next (encoded_access a) ≡ next.Access a
unfolding encoded_access decoded_kind
access_back (Read p) = place 16 (lit≤ tt) 0 0 p
access_back (Store p v) = place 17 (lit≤ tt) v 0 p
access_back (Or p v) = place 18 (lit≤ tt) v 0 p
access_back (And p v) = place 19 (lit≤ tt) v 0 p
access_back (Swap p v) = place 20 (lit≤ tt) v 0 p
access_back (Cas p old new) = place 21 (lit≤ tt) new old p

answer_back : (a : Answer) (count : ℕ) → a ≢ LinkBits 0 → decoded_next (encoded_answer a count) ≡ next.Answer a count
unfolding decoded_next decoded_answer encoded_answer code_of
answer_back Done count h = refl
answer_back (LinkBits bits) count h = rw (ne_eqb bits 0 (λ e. h (ap LinkBits e)))
answer_back UpcallWanted count h = refl
answer_back LinkAbandoned count h = refl
answer_back BadPort count h = refl
answer_back NotBound count h = refl
answer_back AlreadyBound count h = refl
answer_back OutsideArray count h = refl
answer_back StillLinked count h = refl
answer_back BadPriority count h = refl
answer_back AlreadyGiven count h = refl
answer_back NotGiven count h = refl
answer_back BadFrame count h = refl
answer_back BadOffset count h = refl
answer_back TooManyPages count h = refl
answer_back NoEntry count h = refl
answer_back CallUnderWay count h = refl
answer_back NoCall count h = refl
answer_back BadVcpu count h = refl
answer_back BadIndex count h = refl
answer_back (HandedOver port) count h = refl
answer_back NothingReady count h = refl
answer_back (Taken port) count h = refl
answer_back CallUnmask count h = refl

pub decodes_encoded : DecodesEncoded
decodes_encoded = record {
  access = access_back;
  answer = answer_back;
  apart = λ a b e. same_access (sym (access_back a) ∙ ap decoded_next e ∙ access_back b);
}
