-- Why the system doesn't open or make a file, by its kind of error.
use Rattle.std.specs.declared.io.ErrorKind.{ErrorKind}
use Rattle.store_files.specs.declared.cause.FileCause.{FileCause}
use Rattle.store_files.specs.declared.cause.FileCause.TheVariants as cause

-- an opened file
abbrev pub cause_of_opening : ErrorKind → FileCause
cause_of_opening ErrorKind.NotFound = cause.NotFound
cause_of_opening ErrorKind.PermissionDenied = cause.Permission
cause_of_opening ErrorKind.WouldBlock = cause.InUse
cause_of_opening ErrorKind.IsADirectory = cause.Folder
cause_of_opening ErrorKind.ReadOnlyFilesystem = cause.ReadOnly
cause_of_opening ErrorKind.StorageFull = cause.Full
cause_of_opening _ = cause.Other

-- a new file: its folder is what isn't found
abbrev pub cause_of_new : ErrorKind → FileCause
cause_of_new ErrorKind.NotFound = cause.NoFolder
cause_of_new kind = cause_of_opening kind
