-- The claims of a replay, each proved in a file of its own.
-- Assumes nothing.
use Rattle.replay.specs.Claims.{Claims}
use Rattle.replay.proofs.Pieces.{pieces_played}
use Rattle.replay.proofs.OwnLog.{own_log_agrees}
use Rattle.replay.proofs.Replaced.{other_differs, mask_differs}

pub claims : Claims
claims = record { pieces_played = pieces_played; own_log_agrees = own_log_agrees; other_differs = other_differs; mask_differs = mask_differs }
