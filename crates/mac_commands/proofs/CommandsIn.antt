-- The commands that bytes begin with: the function finds what the relation says.
use Rattle.std.proofs.Common.{◌≡◌, ℕ, zero, suc, ◌-◌, ◌≤◌, ◌<◌, ◌==◌, Bool, true, false, cond, ltb, inl, inr, List, [], ◌∷◌, ◌++◌, length, take, drop, min, refl, sym, ap, ◌∙◌, append_assoc, subst, arith, Option, Some, None}
use Rattle.std.specs.Prelude.{◌||◌, filter, find}
use Rattle.std.specs.List.{list_any}
use Rattle.std.proofs.Math.Seq.{take-append_seam, drop-append_seam, take-length}
use Rattle.std.proofs.lemmas.Bool.{cases_lt, eqb-true, ltb-false, le-ltb}
use Rattle.std.proofs.lemmas.List.{length-append, length-take-le, take-append-drop, take_all, nil_from_length}
use Rattle.lw_types.specs.declared.direction.Direction.{Direction}
use Rattle.lw_types.specs.declared.direction.Direction.TheVariants.{Up, Down}
use Rattle.mac_commands.specs.declared.cid.Cid.{Cid}
use Rattle.mac_commands.specs.declared.command.MacCommand.{MacCommand}
use Rattle.mac_commands.specs.Table.{cid_number, payload_len}
use Rattle.mac_commands.specs.Commands.{IsWhole, command_bytes, spelling, BeginsWhole, AreCommands, IsLongestFit}
use Rattle.mac_commands.specs.Reading.{known_cids, cid_of, with_payload, front_in, and_behind, first_commands, commands_in, is_reported, reported_bytes, is_link_check, asks_link_check, fitting_len}
use Rattle.mac_commands.proofs.Reading.{HasRead, is_read, is_longest, known, none_begins, same_commands, same_stop}

-- ---- the command at the front

some_is : {A : Type 0} (x y : A) → Some x ≡ Some y → x ≡ y
some_is x y e = cc

found_passes : {X : Type 0} (p : X → Bool) (xs : List X) (x : X) → find p xs ≡ Some x → p x ≡ true
found_passes p [] x e = absurd cc
found_passes p (y ∷ xs) x e = by (λ later. found_passes p xs x later) (p y) refl e
  where
    by : (find p xs ≡ Some x → p x ≡ true) → (b : Bool) → p y ≡ b → cond b (Some y) (find p xs) ≡ Some x → p x ≡ true
    by later true h e = subst (λ z. p z ≡ true) (some_is y x e) h
    by later false h e = later e

numbered : (number : ℕ) (cid : Cid) → cid_of number ≡ Some cid → cid_number cid ≡ number
numbered number cid e = eqb-true (cid_number cid) number (found_passes (λ (c : Cid). cid_number c == number) known_cids cid e)

-- a whole command and the bytes after it
abbrev Stands : Direction → List ℕ → MacCommand → List ℕ → Type 0
Stands direction bytes command rest = IsWhole direction command × (bytes ≡ command_bytes command ++ rest)

abbrev front : MacCommand → List ℕ → Option (MacCommand × List ℕ)
front command rest = Some (command, rest)

payload_stands : (direction : Direction) (number : ℕ) (bytes : List ℕ) (o : Option Cid) (command : MacCommand) (rest : List ℕ) → cid_of number ≡ o
    → with_payload direction bytes o ≡ front command rest → Stands direction (number ∷ bytes) command rest
payload_stands direction number bytes None command rest is e = absurd cc
payload_stands direction number bytes (Some cid) command rest is e = by (ltb (length bytes) n) refl e
  where
    n : ℕ
    n = payload_len direction cid

    made : MacCommand
    made = record { cid = cid; payload = take n bytes }

    by : (b : Bool) → ltb (length bytes) n ≡ b → cond b None (front made (drop n bytes)) ≡ front command rest → Stands direction (number ∷ bytes) command rest
    by true h e = absurd cc
    by false h e =
        let pair = some_is (made, drop n bytes) (command, rest) e in
        let same : made ≡ command = ap (λ (f : MacCommand × List ℕ). f.0) pair in
        let behind : drop n bytes ≡ rest = ap (λ (f : MacCommand × List ℕ). f.1) pair in
        let stands : Stands direction (number ∷ bytes) made (drop n bytes) = (
          length-take-le n bytes (ltb-false (length bytes) n h),
          ap (λ (k : ℕ). k ∷ bytes) (sym (numbered number cid is)) ∙ ap (λ (bs : List ℕ). cid_number cid ∷ bs) (sym (take-append-drop n bytes)),
        ) in
        subst (λ (c : MacCommand). Stands direction (number ∷ bytes) c rest) same (subst (λ (r : List ℕ). Stands direction (number ∷ bytes) made r) behind stands)

pub front_stands : (direction : Direction) (bytes : List ℕ) (command : MacCommand) (rest : List ℕ) → front_in direction bytes ≡ front command rest → Stands direction bytes command rest
front_stands direction [] command rest e = absurd cc
front_stands direction (number ∷ bytes) command rest e = payload_stands direction number bytes (cid_of number) command rest refl e

pub front_is : (direction : Direction) (command : MacCommand) (rest : List ℕ) → IsWhole direction command → front_in direction (command_bytes command ++ rest) ≡ front command rest
front_is direction command rest whole = ap (with_payload direction bytes) (known command.cid) ∙ rest_is
  where
    bytes : List ℕ
    bytes = command.payload ++ rest

    n : ℕ
    n = payload_len direction command.cid

    long : ltb (length bytes) n ≡ false
    long = le-ltb (length bytes) n (omega (arith, length-append command.payload rest, whole))

    taken : take n bytes ≡ command.payload
    taken = ap (λ k. take k bytes) (sym whole) ∙ take-append_seam command.payload rest

    dropped : drop n bytes ≡ rest
    dropped = ap (λ k. drop k bytes) (sym whole) ∙ drop-append_seam command.payload rest

    rest_is : with_payload direction bytes (Some command.cid) ≡ front command rest
    rest_is =
        ap (λ (b : Bool). cond b None (front (record { cid = command.cid; payload = take n bytes }) (drop n bytes))) long
        ∙ (ap (λ (p : List ℕ). front (record { cid = command.cid; payload = p }) (drop n bytes)) taken ∙ ap (front command) dropped)

no_front : (direction : Direction) (bytes : List ℕ) → front_in direction bytes ≡ None → ¬ BeginsWhole direction bytes
no_front direction bytes e b =
    let is : front_in direction bytes ≡ front b.0 b.1 = ap (front_in direction) b.3 ∙ front_is direction b.0 b.1 b.2 in
    cc

-- ---- the commands

-- these commands are read, and no command begins after them
abbrev Ends : Direction → List ℕ → List MacCommand → Type 0
Ends direction bytes commands = (rest : List ℕ) × HasRead direction bytes commands rest × ¬ BeginsWhole direction rest

-- if the bytes after the front are read to the end, so are all bytes
ends_behind : (read : List ℕ → List MacCommand) (direction : Direction) (bytes : List ℕ) → ((rest : List ℕ) → length rest < length bytes → Ends direction rest (read rest))
    → Ends direction bytes (and_behind read (front_in direction bytes))
ends_behind read direction bytes behind = by (front_in direction bytes) refl
  where
    by : (o : Option (MacCommand × List ℕ)) → front_in direction bytes ≡ o → Ends direction bytes (and_behind read o)
    by None e = (bytes, record { whole = tt; spelled = refl }, no_front direction bytes e)
    by (Some f) e =
        let stands = front_stands direction bytes f.0 f.1 e in
        let more = behind f.1 (omega (arith, ap length stands.1, length-append f.0.payload f.1)) in
        (more.0, record { whole = (stands.0, more.1.whole); spelled = stands.1 ∙ (ap (λ (bs : List ℕ). command_bytes f.0 ++ bs) more.1.spelled ∙ sym (append_assoc (command_bytes f.0) (spelling (read f.1)) more.0)) }, more.2)

ends : (n : ℕ) (direction : Direction) (bytes : List ℕ) → length bytes ≤ n → Ends direction bytes (first_commands n direction bytes)
ends zero direction bytes le = ([], record { whole = tt; spelled = nil_from_length bytes (omega arith) }, none_begins direction)
ends (suc n) direction bytes le = ends_behind (first_commands n direction) direction bytes (λ rest lt. ends n direction rest (omega arith))

all_end : (direction : Direction) (bytes : List ℕ) → Ends direction bytes (commands_in direction bytes)
all_end direction bytes = ends (length bytes) direction bytes (omega arith)

pub are_commands : (direction : Direction) (bytes : List ℕ) → AreCommands direction bytes (commands_in direction bytes) (length (spelling (commands_in direction bytes)))
are_commands direction bytes =
    let end = all_end direction bytes in
    let read = is_read direction bytes end.0 (commands_in direction bytes) end.1 end.2 in
    let stop : length bytes - length end.0 ≡ length (spelling (commands_in direction bytes)) =
    omega (arith, ap length end.1.spelled, length-append (spelling (commands_in direction bytes)) end.0) in
    subst (AreCommands direction bytes (commands_in direction bytes)) stop read

-- what is read is what the function gives
pub read_is : (direction : Direction) (bytes : List ℕ) (commands : List MacCommand) (stop : ℕ) → AreCommands direction bytes commands stop → commands ≡ commands_in direction bytes
read_is direction bytes commands stop read =
    same_commands direction bytes commands (commands_in direction bytes) stop (length (spelling (commands_in direction bytes))) read (are_commands direction bytes)

-- the first command, and then those of the bytes after it
pub one_more : (direction : Direction) (bytes : List ℕ) → commands_in direction bytes ≡ and_behind (commands_in direction) (front_in direction bytes)
one_more direction bytes =
    let end = ends_behind (commands_in direction) direction bytes (λ rest lt. all_end direction rest) in
    let all = and_behind (commands_in direction) (front_in direction bytes) in
    sym (read_is direction bytes all (length bytes - length end.0) (is_read direction bytes end.0 all end.1 end.2))

pub begin_with : (direction : Direction) (bytes rest : List ℕ) (command : MacCommand) → IsWhole direction command → bytes ≡ command_bytes command ++ rest
    → commands_in direction bytes ≡ command ∷ commands_in direction rest
begin_with direction bytes rest command whole e =
    one_more direction bytes ∙ ap (and_behind (commands_in direction)) (ap (front_in direction) e ∙ front_is direction command rest whole)

pub none_in : (direction : Direction) (bytes : List ℕ) → ¬ BeginsWhole direction bytes → commands_in direction bytes ≡ []
none_in direction bytes none = by (front_in direction bytes) refl
  where
    by : (o : Option (MacCommand × List ℕ)) → front_in direction bytes ≡ o → commands_in direction bytes ≡ []
    by None e = one_more direction bytes ∙ ap (and_behind (commands_in direction)) e
    by (Some f) e = absurd (none (f.0, f.1, (front_stands direction bytes f.0 f.1 e).0, (front_stands direction bytes f.0 f.1 e).1))

-- ---- of an uplink

front_told : (bytes rest : List ℕ) (command : MacCommand) → IsWhole Up command → bytes ≡ command_bytes command ++ rest
    → reported_bytes bytes ≡ spelling (cond (is_reported command) (command ∷ filter is_reported (commands_in Up rest)) (filter is_reported (commands_in Up rest)))
front_told bytes rest command whole e = ap (λ (cs : List MacCommand). spelling (filter is_reported cs)) (begin_with Up bytes rest command whole e)

abbrev kept_if : MacCommand → List ℕ → Bool → List ℕ
kept_if command rest b = spelling (cond b (command ∷ filter is_reported (commands_in Up rest)) (filter is_reported (commands_in Up rest)))

pub is_kept : (bytes rest : List ℕ) (command : MacCommand) → IsWhole Up command → bytes ≡ command_bytes command ++ rest → is_reported command ≡ true
    → reported_bytes bytes ≡ command_bytes command ++ reported_bytes rest
is_kept bytes rest command whole e told = front_told bytes rest command whole e ∙ ap (kept_if command rest) told

pub is_left_out : (bytes rest : List ℕ) (command : MacCommand) → IsWhole Up command → bytes ≡ command_bytes command ++ rest → is_reported command ≡ false
    → reported_bytes bytes ≡ reported_bytes rest
is_left_out bytes rest command whole e told = front_told bytes rest command whole e ∙ ap (kept_if command rest) told

pub none_told : (bytes : List ℕ) → ¬ BeginsWhole Up bytes → reported_bytes bytes ≡ []
none_told bytes none = ap (λ (cs : List MacCommand). spelling (filter is_reported cs)) (none_in Up bytes none)

few_kept : (commands : List MacCommand) → length (spelling (filter is_reported commands)) ≤ length (spelling commands)
few_kept [] = omega arith
few_kept (c ∷ commands) = by (few_kept commands) (is_reported c)
  where
    by : length (spelling (filter is_reported commands)) ≤ length (spelling commands) → (b : Bool)
        → length (spelling (cond b (c ∷ filter is_reported commands) (filter is_reported commands))) ≤ length (spelling (c ∷ commands))
    by few true = omega (arith, few, length-append (command_bytes c) (spelling (filter is_reported commands)), length-append (command_bytes c) (spelling commands))
    by few false = omega (arith, few, length-append (command_bytes c) (spelling commands))

pub few_told : (bytes : List ℕ) → length (reported_bytes bytes) ≤ length bytes
few_told bytes = omega (arith, few_kept (commands_in Up bytes), (are_commands Up bytes).within)

front_asks : (bytes rest : List ℕ) (command : MacCommand) → IsWhole Up command → bytes ≡ command_bytes command ++ rest
    → asks_link_check bytes ≡ (is_link_check command || asks_link_check rest)
front_asks bytes rest command whole e = ap (λ (cs : List MacCommand). list_any is_link_check cs) (begin_with Up bytes rest command whole e)

pub asks : (bytes rest : List ℕ) (command : MacCommand) → IsWhole Up command → bytes ≡ command_bytes command ++ rest → is_link_check command ≡ true
    → asks_link_check bytes ≡ true
asks bytes rest command whole e is = front_asks bytes rest command whole e ∙ ap (λ (b : Bool). b || asks_link_check rest) is

pub asks_behind : (bytes rest : List ℕ) (command : MacCommand) → IsWhole Up command → bytes ≡ command_bytes command ++ rest → is_link_check command ≡ false
    → asks_link_check bytes ≡ asks_link_check rest
asks_behind bytes rest command whole e is = front_asks bytes rest command whole e ∙ ap (λ (b : Bool). b || asks_link_check rest) is

pub none_asks : (bytes : List ℕ) → ¬ BeginsWhole Up bytes → asks_link_check bytes ≡ false
none_asks bytes none = ap (λ (cs : List MacCommand). list_any is_link_check cs) (none_in Up bytes none)

-- ---- of a downlink

cut_at : (queue : List ℕ) (room : ℕ) → take (min (length queue) room) queue ≡ take room queue
cut_at queue room =
    elim (cases_lt room (length queue)) [
      | inl lt ↦ ap (λ k. take k queue) (omega arith)
      | inr le ↦ ap (λ k. take k queue) (omega arith) ∙ (take-length queue ∙ sym (take_all room queue le))
    ]

-- what is read of a queue that is cut to the room
pub is_fitting : (queue : List ℕ) (room k n : ℕ) (commands : List MacCommand) → k ≡ min (length queue) room → AreCommands Down (take k queue) commands n → n ≡ fitting_len queue room
is_fitting queue room k n commands cut read =
    let all = take room queue in
    let same : take k queue ≡ all = ap (λ i. take i queue) cut ∙ cut_at queue room in
    same_stop Down all commands (commands_in Down all) n (fitting_len queue room) (subst (λ (bytes : List ℕ). AreCommands Down bytes commands n) same read) (are_commands Down all)

pub fits : (queue : List ℕ) (room : ℕ) → IsLongestFit queue room (fitting_len queue room)
fits queue room =
    let all = take room queue in
    let read = subst (λ (bytes : List ℕ). AreCommands Down bytes (commands_in Down all) (fitting_len queue room)) (sym (cut_at queue room)) (are_commands Down all) in
    is_longest queue room (min (length queue) room) (fitting_len queue room) (commands_in Down all) refl read
