-- The verbs of the yard's log: the word that names each call, and what follows it.
-- Assumes nothing.
use Rattle.std.specs.Prelude.{Bool, true, false, cond, Option, None, Some, List, [], ◌∷◌, ℕ}
use Rattle.line_words.specs.Words.{same_bytes}
use Rattle.requests.specs.declared.Verb.{Verb}
use Rattle.requests.specs.declared.Verb.TheVariants.{New, Open, OpenDown, Close, Receive, Read, Streams, Build, BuildDown, Sizes, Worst, Pack, Unpack, Nothing, Unreadable}
use Rattle.requests.specs.declared.Form.{Form}

-- calls without a state: `build`, `build-down`, `sizes`, `worst`; no other word is known
unfoldable pub stateless : List ℕ → Verb
stateless w =
    cond (same_bytes w (98 ∷ 117 ∷ 105 ∷ 108 ∷ 100 ∷ [])) Build
    (cond (same_bytes w (98 ∷ 117 ∷ 105 ∷ 108 ∷ 100 ∷ 45 ∷ 100 ∷ 111 ∷ 119 ∷ 110 ∷ [])) BuildDown
    (cond (same_bytes w (115 ∷ 105 ∷ 122 ∷ 101 ∷ 115 ∷ [])) Sizes
    (cond (same_bytes w (119 ∷ 111 ∷ 114 ∷ 115 ∷ 116 ∷ [])) Worst Unreadable)))

-- `new`, `open`, `open-down`, `close`, `receive`, `read`, `streams`, `pack`, `unpack`
unfoldable pub verb_of : List ℕ → Verb
verb_of w =
    cond (same_bytes w (110 ∷ 101 ∷ 119 ∷ [])) New
    (cond (same_bytes w (111 ∷ 112 ∷ 101 ∷ 110 ∷ [])) Open
    (cond (same_bytes w (111 ∷ 112 ∷ 101 ∷ 110 ∷ 45 ∷ 100 ∷ 111 ∷ 119 ∷ 110 ∷ [])) OpenDown
    (cond (same_bytes w (99 ∷ 108 ∷ 111 ∷ 115 ∷ 101 ∷ [])) Close
    (cond (same_bytes w (114 ∷ 101 ∷ 99 ∷ 101 ∷ 105 ∷ 118 ∷ 101 ∷ [])) Receive
    (cond (same_bytes w (114 ∷ 101 ∷ 97 ∷ 100 ∷ [])) Read
    (cond (same_bytes w (115 ∷ 116 ∷ 114 ∷ 101 ∷ 97 ∷ 109 ∷ 115 ∷ [])) Streams
    (cond (same_bytes w (112 ∷ 97 ∷ 99 ∷ 107 ∷ [])) Pack
    (cond (same_bytes w (117 ∷ 110 ∷ 112 ∷ 97 ∷ 99 ∷ 107 ∷ [])) Unpack (stateless w)))))))))

-- a call with so many numbers, the second of them a terminal or not, one of them soft bits (its word) or none, and BITS behind them or not
abbrev pub form : ℕ → Bool → Option ℕ → Bool → Option Form
form n t s b = Some (record { numbers = n; terminal = t; soft = s; bits = b })

-- `new S M`, `open SLOT TERMINAL A`, `open-down SLOT TERMINAL A RELEASE MIMO PROCESSES SOFT LAYERS`, `close SLOT TERMINAL`,
-- `receive SLOT TERMINAL Q N VERSION BITS`, `read SLOT TERMINAL`, `streams SLOT TERMINAL BLOCK`, `build Q N VERSION G BITS`,
-- `build-down RELEASE MIMO PROCESSES SOFT LAYERS Q N VERSION G BITS`, `sizes A`, `worst A Q N`, `pack`, `unpack`
unfoldable pub form_of : Verb → Option Form
form_of New = form 2 false None false
form_of Open = form 3 true None false
form_of OpenDown = form 8 true (Some 7) false
form_of Close = form 2 true None false
form_of Receive = form 5 true None true
form_of Read = form 2 true None false
form_of Streams = form 3 true None false
form_of Build = form 4 false None true
form_of BuildDown = form 9 false (Some 4) true
form_of Sizes = form 1 false None false
form_of Worst = form 3 false None false
form_of Pack = form 0 false None false
form_of Unpack = form 0 false None false
form_of Nothing = None
form_of Unreadable = None
