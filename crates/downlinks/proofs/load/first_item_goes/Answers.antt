use Rattle.std.proofs.Common.{◌≡◌, ◌∙◌, ◌+◌, ℕ, Bool, true, false, List, length, Option, Some, None, MatchBool, ap, sym}
use Rattle.std.specs.Prelude.{is_some, nat_le, slice_get, slice_index}
use Rattle.region_eu868.specs.Region.{max_payloads}
use Rattle.devices.specs.declared.queue.Item.{Item}
use Rattle.downlinks.specs.Load.{f_opts_of, fits, if_fits, rx1_data_rate}
use Rattle.downlinks.proofs.load.first_item_goes.Goals as goal

-- the code's test of the lengths
fit_is : (rate : ℕ) (opts : List ℕ) (item : Item) {opts_len payload_len longest : ℕ} → opts_len ≡ length opts → payload_len ≡ length item.payload → longest ≡ slice_index max_payloads rate
    → nat_le (7 + opts_len + 1 + payload_len) longest ≡ fits rate opts item
fit_is rate opts item of_opts of_payload of_rate = rw (of_opts, of_payload, of_rate)

-- the oldest item is sent if it fits
goes : (rate : ℕ) (opts : List ℕ) (first : Option Item) (item : Item) (b : Bool) → first ≡ Some item → b ≡ fits rate opts item → b ≡ is_some (if_fits rate opts first)
goes rate opts first item true is fit = rw (is, ← fit)
goes rate opts first item false is fit = rw (is, ← fit)

which : (rate : ℕ) (opts : List ℕ) (first : Option Item) (item : Item) (b : Bool) → first ≡ Some item → b ≡ fits rate opts item
    → MatchBool b (if_fits rate opts first ≡ first) (if_fits rate opts first ≡ None)
which rate opts first item true is fit = rw (is, ← fit)
which rate opts first item false is fit = rw (is, ← fit)

pub returns-in-Some-clause-goes : goal.returns-in-Some-clause-goes
returns-in-Some-clause-goes c =
    let d = c.args.device.now in
    let asked = c.args.asked.now in
    let item = c.in-Some.item.now in
    let first : slice_get d.items 0 ≡ Some item = sym (c.in-Some.ensures.value ∙ ap (λ (l : List Item). slice_get l 0) c.as_slice.ensures.items) in
    let longest = c.from.ensures ∙ (c.max_mac-longest.ensures ∙ ap (slice_index max_payloads) c.rx1_of.ensures.data_rate) in
    let fit = fit_is (rx1_data_rate d asked.best) (f_opts_of d asked) item c.f_opts_len-f_opts_len.ensures.length c.len.ensures.length longest in
    goes (rx1_data_rate d asked.best) (f_opts_of d asked) (slice_get d.items 0) item _ first fit

pub returns-in-Some-clause-which : goal.returns-in-Some-clause-which
returns-in-Some-clause-which c =
    let d = c.args.device.now in
    let asked = c.args.asked.now in
    let item = c.in-Some.item.now in
    let first : slice_get d.items 0 ≡ Some item = sym (c.in-Some.ensures.value ∙ ap (λ (l : List Item). slice_get l 0) c.as_slice.ensures.items) in
    let longest = c.from.ensures ∙ (c.max_mac-longest.ensures ∙ ap (slice_index max_payloads) c.rx1_of.ensures.data_rate) in
    let fit = fit_is (rx1_data_rate d asked.best) (f_opts_of d asked) item c.f_opts_len-f_opts_len.ensures.length c.len.ensures.length longest in
    which (rx1_data_rate d asked.best) (f_opts_of d asked) (slice_get d.items 0) item _ first fit
