-- The numbers and the words of refusals, as callers and readers see them.
use Rattle.std.specs.Prelude.{ℕ, List, codes}
use Rattle.lw_types.specs.declared.refusal.Refusal.{Refusal}
use Rattle.lw_types.specs.declared.refusal.Refusal.TheVariants.{Malformed, NotServed}
use Rattle.lw_types.specs.declared.refusal.Refusal.TheVariants.{UnknownDevAddr, BadMic, CounterGap}
use Rattle.lw_types.specs.declared.refusal.Refusal.TheVariants.{Repeat, UnknownDevEui, WrongJoinEui}
use Rattle.lw_types.specs.declared.refusal.Refusal.TheVariants.{DevNonceUsed, JoinNonceSpent}
use Rattle.lw_types.specs.declared.refusal.Refusal.TheVariants.{MacBoth, QueueFull, MacQueueFull}
use Rattle.lw_types.specs.declared.refusal.Refusal.TheVariants.{TooLong, BadPort, DevEuiTaken}
use Rattle.lw_types.specs.declared.refusal.Refusal.TheVariants.{TableFull, BadMac, WindowsFull}
use Rattle.lw_types.specs.declared.refusal.Refusal.TheVariants.{SameGateway, CopiesFull, Backlog}
use Rattle.lw_types.specs.declared.refusal.Refusal.TheVariants.{UnknownChannel, OutOfMemory}
use Rattle.lw_types.specs.declared.refusal.Refusal.TheVariants.{DeviceFailed, Failed, OutOfStep}
use Rattle.lw_types.specs.declared.refusal.Refusal.TheVariants.{NotFormatted, Damaged, WrongVersion}
use Rattle.lw_types.specs.declared.refusal.Refusal.TheVariants.{WrongSize, FrameTooLong, BadMessage}
use Rattle.lw_types.specs.declared.refusal.Refusal.TheVariants.{CutShort}

-- the number of each refusal
abbrev pub number_of : Refusal → ℕ
number_of Malformed = 1
number_of NotServed = 2
number_of UnknownDevAddr = 3
number_of BadMic = 4
number_of CounterGap = 5
number_of Repeat = 6
number_of UnknownDevEui = 7
number_of WrongJoinEui = 8
number_of DevNonceUsed = 9
number_of JoinNonceSpent = 10
number_of MacBoth = 11
number_of QueueFull = 12
number_of MacQueueFull = 13
number_of TooLong = 14
number_of BadPort = 15
number_of DevEuiTaken = 16
number_of TableFull = 17
number_of BadMac = 18
number_of WindowsFull = 20
number_of SameGateway = 21
number_of CopiesFull = 22
number_of Backlog = 23
number_of UnknownChannel = 24
number_of OutOfMemory = 30
number_of DeviceFailed = 40
number_of Failed = 41
number_of OutOfStep = 42
number_of NotFormatted = 43
number_of Damaged = 44
number_of WrongVersion = 45
number_of WrongSize = 46
number_of FrameTooLong = 50
number_of BadMessage = 51
number_of CutShort = 52

-- the words of each refusal
unfoldable pub words_of : Refusal → List ℕ
words_of Malformed = codes "the frame is not in the grammar"
words_of NotServed = codes "frames of this type are not served here"
words_of UnknownDevAddr = codes "no session has this DevAddr"
words_of BadMic = codes "the MIC fits no session"
words_of CounterGap = codes "the frame counter is too far ahead of the last one"
words_of Repeat = codes "a repeat of an unconfirmed uplink"
words_of UnknownDevEui = codes "the application has no device with this DevEUI"
words_of WrongJoinEui = codes "the device has another JoinEUI"
words_of DevNonceUsed = codes "the DevNonce is not above the last accepted one"
words_of JoinNonceSpent = codes "the device was granted every JoinNonce"
words_of MacBoth = codes "MAC commands in FOpts and on port 0 together"
words_of QueueFull = codes "the device's queue has 16 items"
words_of MacQueueFull = codes "the device's MAC queue has no room for these commands"
words_of TooLong = codes "the payload is above 242 bytes"
words_of BadPort = codes "the port is not from 1 to 223"
words_of DevEuiTaken = codes "a device has this DevEUI already"
words_of TableFull = codes "every slot of the table is taken"
words_of BadMac = codes "these are not whole MAC commands that can be queued"
words_of WindowsFull = codes "1,024 windows are open"
words_of SameGateway = codes "the window has a copy of this gateway"
words_of CopiesFull = codes "the window has 32 copies"
words_of Backlog = codes "too many decisions wait to be committed"
words_of UnknownChannel = codes "the frequency or the data rate is not a channel's"
words_of OutOfMemory = codes "out of memory"
words_of DeviceFailed = codes "the device failed in this call"
words_of Failed = codes "an earlier call of this store failed: open it again"
words_of OutOfStep = codes "the batch does not continue the durable state"
words_of NotFormatted = codes "this is no formatted store"
words_of Damaged = codes "the store is damaged"
words_of WrongVersion = codes "the store has another version"
words_of WrongSize = codes "the disk has another length than the store"
words_of FrameTooLong = codes "the frame is too long"
words_of BadMessage = codes "the message is not in the format"
words_of CutShort = codes "the input ends inside a frame"
