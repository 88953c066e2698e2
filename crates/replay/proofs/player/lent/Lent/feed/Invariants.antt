-- `replay::player::lent::Lent::feed`: what the rest makes of the present position is what the piece makes of the first. The measure is the
-- number of bytes left. Assumes nothing.
use Rattle.std.proofs.Common.{◌≡◌, length, Ok}
use Rattle.word.specs.Word.{link_bits}
use Rattle.replay.specs.Player.{fed}
use Rattle.replay.specs.State.{feed_of}
use Rattle.replay.specs.Lent.{KeepsReferences, world_lent}
use Rattle.replay.proofs.player.lent.Lent.feed.Given as goal

abbrev pub invariant-loop-rest : goal.invariant-loop-rest
invariant-loop-rest l = record {
  same_references : KeepsReferences l.initial.self l.self;
  size : length l.line ≡ length l.initial.line;
  fed : fed link_bits (feed_of (Ok l.at) l.line l.self.due.now (world_lent l.self)) l.rest
      ≡ fed link_bits (feed_of (Ok l.initial.at) l.initial.line l.initial.self.due.now (world_lent l.initial.self)) l.initial.rest;
}

abbrev pub decreases-loop-rest : goal.decreases-loop-rest
decreases-loop-rest l = length l.rest
