-- By computation: a log recorded from a bind, a raise, a service with a clear_mask in it and masks on one lent page, as text; and what a
-- replay says of it, of the same log with one line changed, and of one that goes past the page.
-- Assumes nothing.
use Prim.Native.String.{String}
use Rattle.std.specs.Prelude.{◌≡◌, List, [], ◌∷◌, ◌++◌, map}
use Rattle.word.specs.Word.{link_bits, port_at}
use Rattle.machine.specs.declared.types.Side.TheVariants as side
use Rattle.access_log.specs.declared.line.LoggedCall.TheVariants.{InitControl, ExpandArray, Bind, Raise, Service, Mask, ClearMask}
use Rattle.access_log.specs.Line.{ascii, bytes_of}
use Rattle.replay.specs.declared.player.Report.{Report}
use Rattle.replay.specs.Replay.{fresh_world, report, replay}
use Rattle.replay.specs.Claims.{joined, Act, calls, accesses, Recordable, whole_log}

abbrev x : Act
x = accesses side.Hypervisor

abbrev g : Act
g = accesses side.Guest

abbrev pub acts : List Act
acts =
    calls (InitControl 0 1 0)
    ∷ calls (ExpandArray 2)
    ∷ calls (Bind (port_at 5))
    ∷ x
    ∷ calls (Raise (port_at 5))
    ∷ x
    ∷ x
    ∷ x
    ∷ x
    ∷ calls (Mask (port_at 6))
    ∷ calls Service
    ∷ g
    ∷ calls (ClearMask (port_at 6))
    ∷ g
    ∷ g
    ∷ g
    ∷ g
    ∷ g
    ∷ g
    ∷ calls (Mask (port_at 5))
    ∷ []

-- its log: every line up to the last mask's, and that mask's
abbrev pub first : List String
first =
    "accesses\t1\n"
    ∷ "X\tcall\tinit_control\t0\t1\t0\n"
    ∷ "X\tanswer\t0\t-\t-\t-\n"
    ∷ "X\tcall\texpand_array\t-\t2\t-\n"
    ∷ "X\tanswer\t0\t-\t-\t-\n"
    ∷ "X\tcall\tbind\t5\t-\t-\n"
    ∷ "X\tread\tw5\t-\t-\t00000000\n"
    ∷ "X\tanswer\t0\t-\t-\t-\n"
    ∷ "X\tcall\traise\t5\t-\t-\n"
    ∷ "X\tor\tw5\t-\t80000000\t00000000\n"
    ∷ "X\tor\tw5\t-\t20000000\t80000000\n"
    ∷ "X\tstore\th7\t-\t00000005\t-\n"
    ∷ "X\tor\tready\t-\t00000080\t00000000\n"
    ∷ "X\tanswer\t1\t-\t-\t-\n"
    ∷ "G\tcall\tmask\t6\t-\t-\n"
    ∷ "G\tor\tw6\t-\t40000000\t00000000\n"
    ∷ "G\tanswer\t0\t-\t-\t-\n"
    ∷ "G\tcall\tservice\t-\t-\t-\n"
    ∷ "G\tswap\tready\t-\t00000000\t00000080\n"
    ∷ "G\tcall\tclear_mask\t6\t-\t-\n"
    ∷ "G\tread\tw6\t-\t-\t40000000\n"
    ∷ "G\tcas\tw6\t40000000\t00000000\t40000000\n"
    ∷ "G\tanswer\t0\t-\t-\t-\n"
    ∷ "G\tread\th7\t-\t-\t00000005\n"
    ∷ "G\tand\tw5\t-\tDFFE0000\tA0000000\n"
    ∷ "G\tread\tw5\t-\t-\t80000000\n"
    ∷ "G\tand\tw5\t-\t7FFFFFFF\t80000000\n"
    ∷ "G\tanswer\t19\t5\t-\t-\n"
    ∷ "G\tcall\tmask\t5\t-\t-\n"
    ∷ []

abbrev pub last : List String
last = "G\tor\tw5\t-\t40000000\t00000000\n" ∷ "G\tanswer\t0\t-\t-\t-\n" ∷ []

-- ten entries, one page
abbrev pub said : List String → Report
said texts = replay link_bits 10 1024 (joined (map ascii texts))

pub record Example : Type 0 where
  pub may : Recordable link_bits (fresh_world 10 1024) acts
  pub written : map bytes_of (whole_log link_bits 10 1024 acts) ≡ map ascii (first ++ last)
  pub agrees : said (first ++ last) ≡ report 0 31
  pub early : said first ≡ report 1 30
  pub differs : said (first ++ "G\tor\tw5\t-\t40000000\t00000001\n" ∷ []) ≡ report 1 30
  pub unread : said (first ++ "G\tor\tw05\t-\t40000000\t00000000\n" ∷ []) ≡ report 22 30
  pub unlent : said (first ++ last ++ "X\tcall\texpand_array\t-\t3\t-\n" ∷ []) ≡ report 33 32
