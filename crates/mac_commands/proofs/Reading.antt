-- Commands are read from the front, one after another, in only one way.
use Rattle.std.proofs.Common.{◌≡◌, ℕ, ◌-◌, ◌≤◌, List, [], ◌∷◌, ◌++◌, length, take, drop, min, refl, sym, ap, ◌∙◌, append_assoc, subst, arith, Some}
use Rattle.std.specs.List.{AllByRecursion}
use Rattle.std.proofs.lemmas.Grind.{flat_map-append}
use Rattle.std.proofs.Math.Seq.{take-append_seam, drop-append_seam, take-length, drop-length}
use Rattle.std.proofs.lemmas.List.{append-nil, flat_map_more, length-append, length-drop, length-take-le, take-append-drop, take-append-le}
use Rattle.mac_commands.specs.declared.cid.Cid.{Cid}
use Rattle.mac_commands.specs.declared.cid.Cid.TheVariants.{LinkCheck, LinkAdr, DutyCycle, RxParamSetup, DevStatus, NewChannel, RxTimingSetup, TxParamSetup, DlChannel, DeviceTime}
use Rattle.lw_types.specs.declared.direction.Direction.{Direction}
use Rattle.lw_types.specs.declared.direction.Direction.TheVariants.{Down}
use Rattle.mac_commands.specs.declared.command.MacCommand.{MacCommand}
use Rattle.mac_commands.specs.Table.{cid_number, payload_len}
use Rattle.mac_commands.specs.Commands.{IsWhole, command_bytes, spelling, Spells, BeginsWhole, AreCommands, IsLongestFit}
use Rattle.mac_commands.specs.Reading.{cid_of}

-- ---- one command

pub known : (cid : Cid) → cid_of (cid_number cid) ≡ Some cid
known LinkCheck = refl
known LinkAdr = refl
known DutyCycle = refl
known RxParamSetup = refl
known DevStatus = refl
known NewChannel = refl
known RxTimingSetup = refl
known TxParamSetup = refl
known DlChannel = refl
known DeviceTime = refl

same_some : (a b : Cid) → Some a ≡ Some b → a ≡ b
same_some a b e = cc

-- no two identifiers share a number
pub number_of-injective : (a b : Cid) → cid_number a ≡ cid_number b → a ≡ b
number_of-injective a b e = same_some a b (sym (known a) ∙ (ap cid_of e ∙ known b))

-- two fronts of one length
pub fronts : (a b x y : List ℕ) → length a ≡ length b → a ++ x ≡ b ++ y → (a ≡ b) × (x ≡ y)
fronts a b x y l e = (
  sym (take-append_seam a x) ∙ (ap (λ n. take n (a ++ x)) l ∙ (ap (take (length b)) e ∙ take-append_seam b y)),
  sym (drop-append_seam a x) ∙ (ap (λ n. drop n (a ++ x)) l ∙ (ap (drop (length b)) e ∙ drop-append_seam b y)),
)

abbrev made : Cid → List ℕ → MacCommand
made cid payload = record { cid = cid; payload = payload }

heads : (m n : ℕ) (xs ys : List ℕ) → m ∷ xs ≡ n ∷ ys → (m ≡ n) × (xs ≡ ys)
heads m n xs ys e = (cc, cc)

-- the same bytes have the same command at their front
pub one_front : (direction : Direction) (c d : MacCommand) (x y : List ℕ) → IsWhole direction c → IsWhole direction d → command_bytes c ++ x ≡ command_bytes d ++ y → (c ≡ d) × (x ≡ y)
one_front direction c d x y whole_c whole_d e =
    let h = heads (cid_number c.cid) (cid_number d.cid) (c.payload ++ x) (d.payload ++ y) e in
    let cid = number_of-injective c.cid d.cid h.0 in
    let t = fronts c.payload d.payload x y (whole_c ∙ (ap (payload_len direction) cid ∙ sym whole_d)) h.1 in
    (ap (λ k. made k c.payload) cid ∙ ap (λ p. made d.cid p) t.0, t.1)

-- ---- commands that were read

-- the commands are whole, and come before the rest
pub record HasRead (direction : Direction) (bytes : List ℕ) (commands : List MacCommand) (rest : List ℕ) : Type 0 where
  pub whole : AllByRecursion (IsWhole direction) commands
  pub spelled : bytes ≡ spelling commands ++ rest

all_joined : (direction : Direction) (a b : List MacCommand) → AllByRecursion (IsWhole direction) a → AllByRecursion (IsWhole direction) b → AllByRecursion (IsWhole direction) (a ++ b)
all_joined direction [] b all_a all_b = all_b
all_joined direction (c ∷ a) b all_a all_b = (all_a.0, all_joined direction a b all_a.1 all_b)

pub reads_more : (direction : Direction) (bytes rest after : List ℕ) (commands : List MacCommand) (command : MacCommand) → HasRead direction bytes commands rest
    → IsWhole direction command → rest ≡ command_bytes command ++ after → HasRead direction bytes (commands ++ command ∷ []) after
reads_more direction bytes rest after commands command read is e = record {
  whole = all_joined direction commands (command ∷ []) read.whole (is, tt);
  spelled = read.spelled ∙ (ap (λ r. spelling commands ++ r) e ∙ (sym (append_assoc (spelling commands) (command_bytes command) after) ∙ ap (λ s. s ++ after) (flat_map_more command_bytes [] commands command)));
}

-- if no command begins, reading stops
pub is_read : (direction : Direction) (bytes rest : List ℕ) (commands : List MacCommand) → HasRead direction bytes commands rest → ¬ BeginsWhole direction rest
    → AreCommands direction bytes commands (length bytes - length rest)
is_read direction bytes rest commands read none =
    let n = length bytes - length rest in
    let is : n ≡ length (spelling commands) = omega (arith, ap length read.spelled, length-append (spelling commands) rest) in
    let front : take n bytes ≡ spelling commands = ap (λ k. take k bytes) is ∙ (ap (take (length (spelling commands))) read.spelled ∙ take-append_seam (spelling commands) rest) in
    let back : drop n bytes ≡ rest = ap (λ k. drop k bytes) is ∙ (ap (drop (length (spelling commands))) read.spelled ∙ drop-append_seam (spelling commands) rest) in
    record {
      within = omega arith;
      before = record { whole = read.whole; spelled = front };
      behind = λ b. none (subst (BeginsWhole direction) back b);
    }

-- a reading as far as `stop`
was_read : (direction : Direction) (bytes : List ℕ) (commands : List MacCommand) (stop : ℕ) → Spells direction (take stop bytes) commands → HasRead direction bytes commands (drop stop bytes)
was_read direction bytes commands stop spells = record {
  whole = spells.whole;
  spelled = sym (take-append-drop stop bytes) ∙ ap (λ s. s ++ drop stop bytes) spells.spelled;
}

-- the commands of a reading that stopped where no command begins are those of any other reading,
-- and more
abbrev GoesOn : List MacCommand → List MacCommand → List ℕ → List ℕ → Direction → Type 0
GoesOn a b x y direction = (tail : List MacCommand) × (b ≡ a ++ tail) × (x ≡ spelling tail ++ y) × AllByRecursion (IsWhole direction) tail

pub goes_on : (direction : Direction) (a b : List MacCommand) (x y : List ℕ) → AllByRecursion (IsWhole direction) a → AllByRecursion (IsWhole direction) b → ¬ BeginsWhole direction y
    → spelling a ++ x ≡ spelling b ++ y → GoesOn a b x y direction
goes_on direction [] b x y all_a all_b none e = (b, refl, e, all_b)
goes_on direction (c ∷ a) [] x y all_a all_b none e =
    absurd (none (c, spelling a ++ x, all_a.0, sym e ∙ append_assoc (command_bytes c) (spelling a) x))
goes_on direction (c ∷ a) (d ∷ b) x y all_a all_b none e =
    let one = one_front direction c d (spelling a ++ x) (spelling b ++ y) all_a.0 all_b.0
    (sym (append_assoc (command_bytes c) (spelling a) x) ∙ (e ∙ append_assoc (command_bytes d) (spelling b) y)) in
    let more = goes_on direction a b x y all_a.1 all_b.1 none one.1 in
    (more.0, ap (λ l. d ∷ l) more.1 ∙ ap (λ f. f ∷ (a ++ more.0)) (sym one.0), more.2, more.3)

goes_on_read : (direction : Direction) (bytes x y : List ℕ) (a b : List MacCommand) → HasRead direction bytes a x → HasRead direction bytes b y → ¬ BeginsWhole direction y → GoesOn a b x y direction
goes_on_read direction bytes x y a b p q none = goes_on direction a b x y p.whole q.whole none (sym p.spelled ∙ q.spelled)

pub no_more : (direction : Direction) (tail : List MacCommand) (x y : List ℕ) → x ≡ spelling tail ++ y → AllByRecursion (IsWhole direction) tail → ¬ BeginsWhole direction x → tail ≡ []
no_more direction [] x y e all none = refl
no_more direction (c ∷ tail) x y e all none = absurd (none (c, spelling tail ++ y, all.0, e ∙ append_assoc (command_bytes c) (spelling tail) y))

pub same_commands : (direction : Direction) (bytes : List ℕ) (a b : List MacCommand) (m n : ℕ) → AreCommands direction bytes a m → AreCommands direction bytes b n → a ≡ b
same_commands direction bytes a b m n p q =
    let more = goes_on_read direction bytes (drop m bytes) (drop n bytes) a b (was_read direction bytes a m p.before) (was_read direction bytes b n q.before) q.behind in
    let none = no_more direction more.0 (drop m bytes) (drop n bytes) more.2 more.3 p.behind in
    sym (more.1 ∙ (ap (λ t. a ++ t) none ∙ append-nil a))

stop_is : (direction : Direction) (bytes : List ℕ) (a : List MacCommand) (m : ℕ) → AreCommands direction bytes a m → m ≡ length (spelling a)
stop_is direction bytes a m p = sym (length-take-le m bytes p.within) ∙ ap length p.before.spelled

pub same_stop : (direction : Direction) (bytes : List ℕ) (a b : List MacCommand) (m n : ℕ) → AreCommands direction bytes a m → AreCommands direction bytes b n → m ≡ n
same_stop direction bytes a b m n p q =
    stop_is direction bytes a m p ∙ (ap (λ l. length (spelling l)) (same_commands direction bytes a b m n p q) ∙ sym (stop_is direction bytes b n q))

pub none_begins : (direction : Direction) → ¬ BeginsWhole direction []
none_begins direction b = let e = b.3 in cc

pub read_to_the_end : (direction : Direction) (bytes : List ℕ) (commands : List MacCommand) → Spells direction bytes commands → AreCommands direction bytes commands (length bytes)
read_to_the_end direction bytes commands spells = record {
  within = omega arith;
  before = subst (λ bs. Spells direction bs commands) (sym (take-length bytes)) spells;
  behind = λ b. none_begins direction (subst (BeginsWhole direction) (drop-length bytes) b);
}

-- ---- what fits

take_take : (xs : List ℕ) (m n : ℕ) → m ≤ n → n ≤ length xs → take m (take n xs) ≡ take m xs
take_take xs m n le within =
    let fits : m ≤ length (take n xs) = omega (arith, length-take-le n xs within) in
    sym (take-append-le m (take n xs) (drop n xs) fits) ∙ ap (take m) (take-append-drop n xs)

-- reading as much of a queue as fits gives the longest beginning
pub is_longest : (queue : List ℕ) (room k n : ℕ) (commands : List MacCommand) → k ≡ min (length queue) room → AreCommands Down (take k queue) commands n → IsLongestFit queue room n
is_longest queue room k n commands cut read =
    let within : k ≤ length queue = omega arith in
    let len : length (take k queue) ≡ k = length-take-le k queue within in
    let le : n ≤ k = omega (arith, len, read.within) in
    record {
      whole = record { within = omega arith; whole = (commands, subst (λ bs. Spells Down bs commands) (take_take queue n k le within) read.before) };
      fits = omega arith;
      longest = λ m b room_m.
          let le_m : m ≤ k = omega (arith, b.within) in
          let front : Spells Down (take m (take k queue)) b.whole.0 = subst (λ bs. Spells Down bs b.whole.0) (sym (take_take queue m k le_m within)) b.whole.1 in
          let more = goes_on_read Down (take k queue) (drop m (take k queue)) (drop n (take k queue)) b.whole.0 commands (was_read Down (take k queue) b.whole.0 m front) (was_read Down (take k queue) commands n read.before) read.behind in
          omega (arith, len, ap length more.2, length-append (spelling more.0) (drop n (take k queue)), length-drop m (take k queue), length-drop n (take k queue));
    }

-- ---- joined and parted

pub joined : (direction : Direction) (a b : List ℕ) (first second : List MacCommand) → Spells direction a first → Spells direction b second → Spells direction (a ++ b) (first ++ second)
joined direction a b first second p q = record {
  whole = all_joined direction first second p.whole q.whole;
  spelled = ap (λ bs. bs ++ b) p.spelled ∙ (ap (λ bs. spelling first ++ bs) q.spelled ∙ sym (flat_map-append command_bytes first second));
}

pub parted : (direction : Direction) (a b : List ℕ) (all first : List MacCommand) → Spells direction (a ++ b) all → Spells direction a first → (second : List MacCommand) × (all ≡ first ++ second) × Spells direction b second
parted direction a b all first p q =
    let more = goes_on direction first all b [] q.whole p.whole (none_begins direction)
    (ap (λ bs. bs ++ b) (sym q.spelled) ∙ (p.spelled ∙ sym (append-nil (spelling all)))) in
    (more.0, more.1, record { whole = more.3; spelled = more.2 ∙ append-nil (spelling more.0) })
